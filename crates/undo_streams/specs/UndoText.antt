-- The undo text of a table at a unit: the lines that take its text at the unit back to that at the unit before.
use Rattle.std.specs.Prelude.{ℕ, zero, suc, ◌-◌, ◌==◌, List, [], ◌∷◌, ◌++◌, codes, decimal, filter, map}
use Rattle.std.specs.List.{concat, position_or_len}
use Rattle.schema_facts.specs.Dictionaries.{Project}
use Rattle.life_intervals.specs.Generator.{Generator, generator_of, last_unit}
use Rattle.life_intervals.specs.Rows.{Row}
use Rattle.life_intervals.specs.Simulation.{holds_row, rows_at}
use Rattle.life_intervals.specs.Streams.{deleted, inserted, updated}
use Rattle.row_lines.specs.Lines.{key_line_of, line}

-- the place, from 0, of the row with an ordinal in the list of the rows that the table at a place of the schema holds at a unit
unfoldable pub place_of : Generator → ℕ → ℕ → ℕ → ℕ
place_of generator table unit ordinal = position_or_len (λ (row : Row). row.ordinal == ordinal) (rows_at generator table unit)

-- the rows that a unit updates, as they are at the unit before it
unfoldable pub updated_before : Generator → ℕ → ℕ → List Row
updated_before generator table zero = []
updated_before generator table (suc unit) =
    filter (λ (row : Row). holds_row (updated generator table (suc unit)) row.ordinal) (rows_at generator table unit)

-- a word as the first field, and after the delimiter what stands in others
abbrev pub behind_word : ℕ → List ℕ → List ℕ → List ℕ
behind_word delimiter word others = word ++ delimiter ∷ others

-- the line that drops a row which is born by a last unit, by its key
abbrev pub drop_line : Generator → ℕ → ℕ → Row → List ℕ
drop_line generator last table row = behind_word generator.delimiter (codes "drop") (key_line_of generator last table row.ordinal)

-- the line that sets a row back to what it is at a unit
abbrev pub set_line : Generator → ℕ → ℕ → Row → List ℕ
set_line generator unit table row = behind_word generator.delimiter (codes "set") (line generator unit table row)

-- the line that adds a row as it is at a unit again, at its place then
abbrev pub add_line : Generator → ℕ → ℕ → Row → List ℕ
add_line generator unit table row =
    behind_word generator.delimiter (codes "add")
    (behind_word generator.delimiter (decimal (place_of generator table unit row.ordinal)) (line generator unit table row))

-- the lines that undo what a unit changes in the table at a place: one for each row that it inserts, then for each that it updates, then for
-- each that it deletes, in their order
unfoldable pub undo_lines : Generator → ℕ → ℕ → ℕ → List (List ℕ)
undo_lines generator last unit table =
    map (drop_line generator last table) (inserted generator table unit)
    ++ map (set_line generator (unit - 1) table) (updated_before generator table unit)
    ++ map (add_line generator (unit - 1) table) (deleted generator table unit)

-- these lines of a schema's table, and the undo text
abbrev pub undo_lines_of : Project → ℕ → ℕ → List (List ℕ)
undo_lines_of plan unit table = undo_lines (generator_of plan) (last_unit plan) unit table

abbrev pub undo_text : Project → ℕ → ℕ → List ℕ
undo_text plan unit table = concat (undo_lines_of plan unit table)
