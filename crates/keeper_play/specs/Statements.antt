-- The statements that play a schema's units into a store: unit 0 puts its rows; each later unit puts the rows that it updates, drops those
-- that it deletes, children before their parents, and puts those that it inserts, parents before their children.
use Rattle.std.specs.Prelude.{◌≡◌, ◌<◌, ℕ, ◌==◌, ◌+◌, zero, suc, List, ◌++◌, filter_map, find, flat_map, length, map, reverse, take, zip, Option, Some, None}
use Rattle.std.specs.List.{range_with_len}
use Rattle.std.specs.Option.{option_map}
use Rattle.cohort_sizes.specs.Births.{cohort_size, first_ordinal}
use Rattle.cohort_sizes.specs.declared.cohort.Cohort.{Cohort}
use Rattle.schema_facts.specs.Dictionaries.{Project}
use Rattle.schema_facts.specs.Layout.{table_at}
use Rattle.schema_facts.specs.References.{Reference, references_of}
use Rattle.life_intervals.specs.Generator.{Generator, generator_of, table_of}
use Rattle.life_intervals.specs.Keys.{key_of}
use Rattle.life_intervals.specs.Rows.{Row}
use Rattle.life_intervals.specs.Simulation.{rows_at}
use Rattle.life_intervals.specs.Streams.{deleted, inserted, updated}
use Rattle.row_lines.specs.Lines.{line}
use Rattle.row_keeper.specs.Kept.{KeptRow, KeptRows, Statement, put_row, drop_row, after_statements, no_rows}
use Rattle.row_keeper.specs.declared.keeper.RefTo.{RefTo}

-- ---- a row

-- the key of a row of the table at a place
abbrev pub row_key : Generator → ℕ → Row → ℕ
row_key generator place row = key_of generator place row.born row.ordinal

-- where a reference leads by which a row has this parent, which is born by the row's birth; None where the reference is null
abbrev pub reference_to : Generator → ℕ → Reference × Option ℕ → Option RefTo
reference_to generator born (reference, None) = None
reference_to generator born (reference, Some parent) =
    Some (record { column = reference.column; table = reference.parent; key = key_of generator reference.parent born parent })

-- where those of a row of the table at a place lead that aren't null, in the order of their columns
abbrev pub refs_of : Generator → ℕ → Row → List RefTo
refs_of generator place row =
    filter_map (reference_to generator row.born) (zip (references_of (table_at generator.tables place)) row.parents)

-- what a store keeps of the row at a unit
abbrev pub kept_row : Generator → ℕ → ℕ → Row → KeptRow
kept_row generator unit place row = record { refs = refs_of generator place row; line = line generator unit place row }

-- the statements that put it, and that drop it
abbrev pub put_of : Generator → ℕ → ℕ → Row → Statement
put_of generator unit place row = put_row place (row_key generator place row) (kept_row generator unit place row)

abbrev pub drop_of : Generator → ℕ → Row → Statement
drop_of generator place row = drop_row place (row_key generator place row)

-- ---- a unit

-- the places of the tables, in order
abbrev pub places : Generator → List ℕ
places generator = range_with_len 0 (length generator.tables)

-- a unit's statements on the table at a place: its updates, its deletions and its insertions
abbrev pub updates : Generator → ℕ → ℕ → List Statement
updates generator unit place = map (put_of generator unit place) (updated generator place unit)

abbrev pub deletions : Generator → ℕ → ℕ → List Statement
deletions generator unit place = map (drop_of generator place) (deleted generator place unit)

abbrev pub insertions : Generator → ℕ → ℕ → List Statement
insertions generator unit place = map (put_of generator unit place) (inserted generator place unit)

-- the statements of a unit: at unit 0 a put for each row; later the updates table by table, the deletions in the contrary order, and the
-- insertions table by table
unfoldable pub unit_statements : Generator → ℕ → List Statement
unit_statements generator zero =
    flat_map (λ place. map (put_of generator 0 place) (rows_at generator place 0)) (places generator)
unit_statements generator (suc unit) =
    flat_map (updates generator (suc unit)) (places generator)
    ++ flat_map (deletions generator (suc unit)) (reverse (places generator))
    ++ flat_map (insertions generator (suc unit)) (places generator)

-- those that put the rows of a unit into a store without rows, table by table
unfoldable pub held_statements : Generator → ℕ → List Statement
held_statements generator unit = flat_map (λ place. map (put_of generator unit place) (rows_at generator place unit)) (places generator)

-- those of the units up to one
abbrev pub statements_to : Generator → ℕ → List Statement
statements_to generator unit = flat_map (unit_statements generator) (range_with_len 0 (unit + 1))

-- the rows after the first of them, as many as `count`
abbrev pub rows_after : Generator → ℕ → ℕ → KeptRows
rows_after generator unit count = after_statements (take count (statements_to generator unit)) no_rows

-- the rows of the simulation at a unit
abbrev pub rows_of_unit : Generator → ℕ → KeptRows
rows_of_unit generator unit place key =
    option_map (kept_row generator unit place) (find (λ row. row_key generator place row == key) (rows_at generator place unit))
