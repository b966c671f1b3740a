-- The closed form of the simulation: what an ordinal alone tells of its row.
use Rattle.std.specs.Prelude.{ℕ, ◌+◌, ◌-◌, ◌==◌, Bool, true, false, ◌&&◌, if◌then◌else◌, nat_lt, List, [], ◌∷◌, filter, length, map, slice_index_or, take, zip, Option, Some, None}
use Rattle.std.specs.List.{range_with_len}
use Rattle.std.specs.Option.{option_map}
use Rattle.philox_seeds.specs.SeedTree.{life_column}
use Rattle.cohort_sizes.specs.Births.{birth, born_count, cohort_size, first_ordinal, index_at}
use Rattle.schema_facts.specs.InTurn.{in_turn}
use Rattle.schema_facts.specs.Layout.{TableLayout, no_table, table_at}
use Rattle.schema_facts.specs.Lineage.{lesser_life}
use Rattle.life_intervals.specs.Changes.{change_by, wait_by}
use Rattle.life_intervals.specs.Generator.{Generator, Order}
use Rattle.schema_facts.specs.References.{Reference, cascades_of, count_in_window, first_in_window, references_of}
use Rattle.life_intervals.specs.References.{dealt}
use Rattle.life_intervals.specs.Rows.{Row, State, life_by}

-- ---- parents and deaths, by birth unit and index

-- the table at a place, with the parents of the row that has an index in a unit's cohort, with when it loses each (None: never), and
-- with its death
pub record Known : Type 0 where
  pub table : TableLayout
  pub place : ℕ
  pub parents : ℕ → ℕ → List ℕ
  pub losses : ℕ → ℕ → List (Option ℕ)
  pub death : ℕ → ℕ → Option ℕ

-- what stands past the last table
abbrev pub nothing_known : Known
nothing_known = record { table = no_table; place = 0; parents = λ unit index. []; losses = λ unit index. []; death = λ unit index. None }

-- the table at a place among those that are known
abbrev pub known_at : List Known → ℕ → Known
known_at known place = slice_index_or known place nothing_known

-- the unit at which the row of an ordinal that is born by a last unit dies; None where it never does
abbrev pub death_by : Known → ℕ → ℕ → Option ℕ
death_by known last ordinal = known.death (birth known.table.births last ordinal) (index_at known.table.births last ordinal)

-- the unit at which a row's own life ends, in the table at a place
abbrev pub own_death_by : Order → ℕ → TableLayout → ℕ → ℕ → Option ℕ
own_death_by order place table unit index =
    option_map (λ life. unit + life) (life_by table.life (order.place place life_column unit index))

-- the ordinal of the parent that a row has by a reference: of the rows born in the window, the one that is chosen
abbrev pub parent_by : Order → List Known → ℕ → ℕ → Reference → ℕ
parent_by order earlier unit index reference =
    let births = (known_at earlier reference.parent).table.births in
    first_in_window births reference.window unit
    + dealt reference (order.deal (length earlier) reference.column unit) (count_in_window births reference.window unit)
    (order.place (length earlier) reference.column unit index)

-- the death of that parent
abbrev pub parent_death_by : Order → List Known → ℕ → ℕ → Reference → Option ℕ
parent_death_by order earlier unit index reference =
    death_by (known_at earlier reference.parent) unit (parent_by order earlier unit index reference)

-- the unit at which a row loses its parent by a reference: the death of that one, where the reference becomes null. None where it never
-- does, and where the parent takes it along
abbrev pub loss_by : Order → List Known → ℕ → ℕ → Reference → Option ℕ
loss_by order earlier unit index reference =
    if reference.nulls then parent_death_by order earlier unit index reference else None

-- the first of some deaths; None never comes
abbrev pub first_death : List (Option ℕ) → Option ℕ
first_death [] = None
first_death (death ∷ others) = lesser_life death (first_death others)

-- what is known of a table, by what is known of those before it: a row dies when its own life ends or a parent dies that takes it
-- along
abbrev pub known_by : Order → List Known → TableLayout → Known
known_by order earlier table = record {
  table = table;
  place = length earlier;
  parents = λ unit index. map (parent_by order earlier unit index) (references_of table);
  losses = λ unit index. map (loss_by order earlier unit index) (references_of table);
  death =
      λ unit index. first_death (own_death_by order (length earlier) table unit index
      ∷ map (parent_death_by order earlier unit index) (cascades_of table));
}

-- what is known of each table, in order
abbrev pub known_tables : Generator → List Known
known_tables generator = in_turn (known_by generator.order) [] generator.tables

-- what is known of the table at a place
abbrev pub known_of : Generator → ℕ → Known
known_of generator place =
    known_by generator.order (take place (known_tables generator)) (table_at generator.tables place)

-- ---- rows

-- whether a death lies past a unit; one that never comes does
abbrev pub is_after : Option ℕ → ℕ → Bool
is_after None unit = true
is_after (Some death) unit = nat_lt unit death

-- whether a death comes at a unit
abbrev pub is_at : Option ℕ → ℕ → Bool
is_at None unit = false
is_at (Some death) unit = death == unit

-- a parent, up to when it is lost
abbrev pub held_until : Option ℕ → ℕ → ℕ → Option ℕ
held_until loss unit parent = if is_after loss unit then Some parent else None

-- the row of an ordinal of a known table, at a unit by which it is born
abbrev pub row_by : Order → Known → ℕ → ℕ → Row
row_by order known unit ordinal =
    let births = known.table.births in
    let born = birth births unit ordinal in
    let index = index_at births unit ordinal in
    record {
      ordinal = ordinal;
      born = born;
      changed = change_by order known.place known.table (known.losses born index) born index unit;
      left = option_map (λ death. death - unit) (own_death_by order known.place known.table born index);
      wait = wait_by order known.place known.table born index unit;
      parents =
          map (λ (at : ℕ × Option ℕ). held_until at.1 unit at.0) (zip (known.parents born index) (known.losses born index));
    }

-- ---- the table at a place of a generator, by ordinals that are born by a unit

-- the unit at which the own life of a row ends; None where it has no end of its own
abbrev pub own_death : Generator → ℕ → ℕ → ℕ → Option ℕ
own_death generator place unit ordinal =
    let table = table_at generator.tables place in
    own_death_by generator.order place table (birth table.births unit ordinal) (index_at table.births unit ordinal)

-- the unit at which a row dies; None where it never does
abbrev pub death : Generator → ℕ → ℕ → ℕ → Option ℕ
death generator place unit ordinal = death_by (known_of generator place) unit ordinal

-- the ordinal of the parent that a row has by a reference of its table
abbrev pub parent_of : Generator → ℕ → ℕ → ℕ → Reference → ℕ
parent_of generator place unit ordinal reference =
    let births = (table_at generator.tables place).births in
    parent_by generator.order (take place (known_tables generator))
    (birth births unit ordinal) (index_at births unit ordinal) reference

-- the unit at which the row loses that parent
abbrev pub loss_of : Generator → ℕ → ℕ → ℕ → Reference → Option ℕ
loss_of generator place unit ordinal reference =
    let births = (table_at generator.tables place).births in
    loss_by generator.order (take place (known_tables generator))
    (birth births unit ordinal) (index_at births unit ordinal) reference

-- the parent, where the row still has it at the unit
abbrev pub held_parent : Generator → ℕ → ℕ → ℕ → Reference → Option ℕ
held_parent generator place unit ordinal reference =
    held_until (loss_of generator place unit ordinal reference) unit (parent_of generator place unit ordinal reference)

-- the unit of a row's last change by the unit
abbrev pub change_unit : Generator → ℕ → ℕ → ℕ → ℕ
change_unit generator place unit ordinal =
    let table = table_at generator.tables place in
    change_by generator.order place table (map (loss_of generator place unit ordinal) (references_of table))
    (birth table.births unit ordinal) (index_at table.births unit ordinal) unit

-- whether a row is alive at the unit
abbrev pub is_live : Generator → ℕ → ℕ → ℕ → Bool
is_live generator place unit ordinal = is_after (death generator place unit ordinal) unit

-- a row, as it is at the unit
abbrev pub row_at : Generator → ℕ → ℕ → ℕ → Row
row_at generator place unit ordinal = row_by generator.order (known_of generator place) unit ordinal

-- the ordinals of the rows of the table at a place at a unit: those that are born by it and alive
abbrev pub living : Generator → ℕ → ℕ → List ℕ
living generator place unit =
    filter (is_live generator place unit) (range_with_len 0 (born_count (table_at generator.tables place).births unit))

-- the rows of the table at a place at a unit
abbrev pub rows_of : Generator → ℕ → ℕ → List Row
rows_of generator place unit = map (row_at generator place unit) (living generator place unit)

-- the rows of each table at a unit
abbrev pub interval_state : Generator → ℕ → State
interval_state generator unit = map (λ place. rows_of generator place unit) (range_with_len 0 (length generator.tables))

-- ---- what a unit does to the rows of the table at a place

-- the ordinals of the rows that it deletes: those that are born before it and die at it
abbrev pub dying : Generator → ℕ → ℕ → List ℕ
dying generator place unit =
    filter (λ ordinal. is_at (death generator place unit ordinal) unit)
    (range_with_len 0 (first_ordinal (table_at generator.tables place).births unit))

-- of the rows that it updates: those that are born before it, are alive at it and have it as their change unit
abbrev pub changing : Generator → ℕ → ℕ → List ℕ
changing generator place unit =
    filter (λ ordinal. is_live generator place unit ordinal && change_unit generator place unit ordinal == unit)
    (range_with_len 0 (first_ordinal (table_at generator.tables place).births unit))

-- of the rows that it inserts
abbrev pub newborn : Generator → ℕ → ℕ → List ℕ
newborn generator place unit =
    range_with_len (first_ordinal (table_at generator.tables place).births unit)
    (cohort_size (table_at generator.tables place).births unit)
