-- The rows of the simulation.
use Rattle.std.specs.Prelude.{ℕ, ◌+◌, ◌-◌, ◌%◌, Bool, true, nat_le, List, [], filter, length, map, slice_index, slice_index_or, Option, Some, None}
use Rattle.std.specs.List.{range_with_len}
use Rattle.std.specs.Option.{option_map}
use Rattle.philox_seeds.specs.SeedTree.{life_column, update_column}
use Rattle.schema_facts.specs.declared.layout.Span.{Span}
use Rattle.cohort_sizes.specs.Births.{cohort_size, first_ordinal}
use Rattle.schema_facts.specs.Layout.{TableLayout}
use Rattle.life_intervals.specs.Generator.{Order}
use Rattle.schema_facts.specs.References.{Reference, references_of}
use Rattle.life_intervals.specs.References.{dealt}

-- a row: its place in the order of birth in its table, its birth unit, the unit of its last change, how many units are left to the
-- end of its own life and to its next update (None: it has none), and for each reference of its table the ordinal of its parent (None:
-- it lost it)
pub record Row : Type 0 where
  pub ordinal : ℕ
  pub born : ℕ
  pub changed : ℕ
  pub left : Option ℕ
  pub wait : Option ℕ
  pub parents : List (Option ℕ)

-- the rows that each table holds: tables in schema order, rows in order of birth
abbrev pub State : Type 0
State = List (List Row)

-- how long a row lives by its place among the lives of its cohort; None where the table's rows have no end of their own
abbrev pub life_by : Option Span → ℕ → Option ℕ
life_by life place = option_map (λ (span : Span). span.least + place % (span.most - span.least + 1)) life

-- the age at which a row changes first, by its place among the updates of its cohort; None where the table's rows don't change
abbrev pub first_age_by : Option ℕ → ℕ → Option ℕ
first_age_by update place = option_map (λ period. 1 + place % period) update

-- whether a row is born in a window that ends at a unit
abbrev pub is_in_window : Option ℕ → ℕ → Row → Bool
is_in_window None unit row = true
is_in_window (Some units) unit row = nat_le unit (row.born + units)

-- the ordinals of the rows among which a reference chooses at a unit, of those that its parent's table holds
abbrev pub candidates : Reference → ℕ → List Row → List ℕ
candidates reference unit rows = map (λ (row : Row). row.ordinal) (filter (is_in_window reference.window unit) rows)

-- the parent that a place chooses among them, where a seed deals them
abbrev pub parent_choice : Reference → ℕ → ℕ → List Row → ℕ → ℕ
parent_choice reference seed unit rows place =
    let found = candidates reference unit rows in slice_index found (dealt reference seed (length found) place)

-- the row with an index in a unit's cohort, as it is born; `earlier` is what the tables before its own hold
abbrev pub new_row : Order → ℕ → State → TableLayout → ℕ → Row
new_row order unit earlier table index = record {
  ordinal = first_ordinal table.births unit + index;
  born = unit;
  changed = unit;
  left = life_by table.life (order.place (length earlier) life_column unit index);
  wait = first_age_by table.update (order.place (length earlier) update_column unit index);
  parents =
      map (λ (reference : Reference). Some (parent_choice reference (order.deal (length earlier) reference.column unit) unit
      (slice_index_or earlier reference.parent []) (order.place (length earlier) reference.column unit index))) (references_of table);
}

-- the rows that are born at a unit, in order of index
abbrev pub cohort : Order → ℕ → State → TableLayout → List Row
cohort order unit earlier table = map (new_row order unit earlier table) (range_with_len 0 (cohort_size table.births unit))

-- the index of a row in its cohort
abbrev pub index_in_cohort : TableLayout → Row → ℕ
index_in_cohort table row = row.ordinal - first_ordinal table.births row.born
