-- The simulation: lists of rows, one for each table, stepped unit by unit.
use Rattle.std.specs.Prelude.{ℕ, zero, suc, ◌-◌, ◌==◌, Bool, false, not, ◌&&◌, ◌||◌, if◌then◌else◌, List, [], ◌++◌, filter_map, map, zip, slice_index_or, Option, Some, None}
use Rattle.std.specs.List.{list_all, list_any}
use Rattle.std.specs.Option.{option_map}
use Rattle.schema_facts.specs.InTurn.{in_turn}
use Rattle.schema_facts.specs.Layout.{TableLayout}
use Rattle.life_intervals.specs.Generator.{Generator, Order}
use Rattle.schema_facts.specs.References.{Reference, references_of}
use Rattle.life_intervals.specs.Rows.{Row, State, cohort}

-- ---- a row in a step

-- a count of units, one unit on
abbrev pub one_less : Option ℕ → Option ℕ
one_less units = option_map (λ n. n - 1) units

-- whether a count of units has come to its end
abbrev pub is_over : Option ℕ → Bool
is_over None = false
is_over (Some n) = n == 0

-- whether the row of an ordinal is among some rows
abbrev pub holds_row : List Row → ℕ → Bool
holds_row rows ordinal = list_any (λ (row : Row). row.ordinal == ordinal) rows

-- whether the parent that a row has by a reference is gone from its table; one that it lost before isn't any more
abbrev pub is_gone : State → Reference × Option ℕ → Bool
is_gone state (reference, None) = false
is_gone state (reference, Some parent) = not (holds_row (slice_index_or state reference.parent []) parent)

-- whether none is that takes it along
abbrev pub hold_parents : State → List Reference → List (Option ℕ) → Bool
hold_parents state references parents =
    list_all (λ (at : Reference × Option ℕ). at.0.nulls || not (is_gone state at)) (zip references parents)

-- whether it loses the parent: that is gone, and the reference becomes null
abbrev pub is_lost : State → Reference × Option ℕ → Bool
is_lost state at = at.0.nulls && is_gone state at

-- whether it loses one
abbrev pub lose_parents : State → List Reference → List (Option ℕ) → Bool
lose_parents state references parents = list_any (is_lost state) (zip references parents)

-- the parents that it still has
abbrev pub parents_left : State → List Reference → List (Option ℕ) → List (Option ℕ)
parents_left state references parents =
    map (λ (at : Reference × Option ℕ). if is_lost state at then None else at.1) (zip references parents)

-- a row after the deletions of a unit, which `earlier`, the tables before its own, have been through; None where its own life ends
-- or a parent is gone that takes it along. Where it loses another it changes
abbrev pub kept : ℕ → State → TableLayout → Row → Option Row
kept unit earlier table row =
    let left = one_less row.left in
    let references = references_of table in
    if not (is_over left) && hold_parents earlier references row.parents
    then Some (record row {
      changed = if lose_parents earlier references row.parents then unit else row.changed;
      left = left;
      parents = parents_left earlier references row.parents;
    })
    else None

-- whether a row is updated at the next unit, where it is kept
abbrev pub is_due : Row → Bool
is_due row = is_over (one_less row.wait)

-- a row after the updates of a unit: where it is due it changes, and waits anew
abbrev pub waited : ℕ → TableLayout → Row → Row
waited unit table row =
    if is_due row then record row { changed = unit; wait = table.update } else record row { wait = one_less row.wait }

-- ---- a step

-- a table's rows after the deletions of a unit
abbrev pub without_dead : ℕ → State → TableLayout × List Row → List Row
without_dead unit earlier (table, rows) = filter_map (kept unit earlier table) rows

-- a table's rows after the updates of a unit
abbrev pub with_changes : ℕ → State → TableLayout × List Row → List Row
with_changes unit earlier (table, rows) = map (waited unit table) rows

-- a table's rows, and after them those born at a unit
abbrev pub with_cohort : Order → ℕ → State → TableLayout × List Row → List Row
with_cohort order unit earlier (table, rows) = rows ++ cohort order unit earlier table

-- the deletions of a unit, table by table
abbrev pub with_deletions : Generator → ℕ → State → State
with_deletions generator unit state = in_turn (without_dead unit) [] (zip generator.tables state)

-- the updates of a unit
abbrev pub with_updates : Generator → ℕ → State → State
with_updates generator unit state = in_turn (with_changes unit) [] (zip generator.tables state)

-- the insertions of a unit, table by table
abbrev pub with_insertions : Generator → ℕ → State → State
with_insertions generator unit state = in_turn (with_cohort generator.order unit) [] (zip generator.tables state)

-- a step to a unit from the unit before it
abbrev pub step : Generator → ℕ → State → State
step generator unit state = with_insertions generator unit (with_updates generator unit (with_deletions generator unit state))

-- ---- the units

-- each table with no row
abbrev pub empty_tables : Generator → State
empty_tables generator = map (λ table. []) generator.tables

-- the state at a unit: unit 0 inserts into empty tables, and each later unit is a step
unfoldable pub simulation : Generator → ℕ → State
simulation generator zero = with_insertions generator 0 (empty_tables generator)
simulation generator (suc unit) = step generator (suc unit) (simulation generator unit)

-- the rows that the table at a place of the schema holds at a unit
unfoldable pub rows_at : Generator → ℕ → ℕ → List Row
rows_at generator place unit = slice_index_or (simulation generator unit) place []
