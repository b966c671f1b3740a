-- What a row is to its own fields: its place and units, what is drawn for it, and its parents.
use Rattle.std.specs.Prelude.{ℕ, ◌==◌, find, zip, Option}
use Rattle.std.specs.Option.{option_and_then}
use Rattle.schema_facts.specs.Layout.{TableLayout, table_at, column_at}
use Rattle.schema_facts.specs.References.{Reference, references_of}
use Rattle.draw_values.specs.declared.values.RowAt.{RowAt}
use Rattle.draw_values.specs.Values.{RowDraws, draw_unit}
use Rattle.life_intervals.specs.Generator.{Generator}
use Rattle.life_intervals.specs.Rows.{Row}

-- a row, as its own values see it
abbrev pub at_row : Row → RowAt
at_row row = record { ordinal = row.ordinal; born = row.born; changed = row.changed }

-- the draws of a row's fields, by the column's place
abbrev pub draws_of : Generator → ℕ → Row → RowDraws
draws_of generator place row column =
    generator.draw place column (draw_unit (column_at (table_at generator.tables place).columns column) (at_row row)) row.ordinal

-- the ordinal of the parent that a row of a table has by the reference in the column at a place; None where it has lost it
abbrev pub parent_of_row : TableLayout → Row → ℕ → Option ℕ
parent_of_row table row column =
    option_and_then (λ (at : Reference × Option ℕ). at.1)
    (find (λ (at : Reference × Option ℕ). at.0.column == column) (zip (references_of table) row.parents))
