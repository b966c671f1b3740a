-- The three parts of an undo text, by the ordinals of the rows.
use Rattle.std.specs.Prelude.{ℕ, ◌-◌, List, codes, decimal, flat_map, map, min, zip}
use Rattle.schema_facts.specs.Dictionaries.{Project}
use Rattle.schema_facts.specs.Layout.{layout_of}
use Rattle.life_intervals.specs.Generator.{generator_of, last_unit}
use Rattle.row_lines.specs.Lines.{key_line_of}
use Rattle.row_lines.specs.Runs.{RunLinesOf, line_for}
use Rattle.undo_streams.specs.UndoText.{behind_word}

-- a word as the first field of a line of a schema
abbrev pub worded : Project → List ℕ → List ℕ → List ℕ
worded plan word others = behind_word (layout_of plan).delimiter word others

-- the line that drops the row of an ordinal, and those that drop some
abbrev pub dropping : Project → ℕ → ℕ → List ℕ
dropping plan table ordinal = worded plan (codes "drop") (key_line_of (generator_of plan) (last_unit plan) table ordinal)

abbrev pub dropping_each : Project → ℕ → List ℕ → List ℕ
dropping_each plan table ordinals = flat_map (dropping plan table) ordinals

-- the line that sets the row of an ordinal back to what it is at a unit, and those that set some back
abbrev pub setting : RunLinesOf → ℕ → List ℕ
setting lines ordinal = worded lines.plan (codes "set") (line_for lines ordinal)

abbrev pub setting_each : RunLinesOf → List ℕ → List ℕ
setting_each lines ordinals = flat_map (setting lines) ordinals

-- the line that adds the row of an ordinal again, at a place, and those that add some, each at its place
abbrev pub adding : RunLinesOf → ℕ → ℕ → List ℕ
adding lines ordinal place = worded lines.plan (codes "add") (worded lines.plan (decimal place) (line_for lines ordinal))

abbrev pub adding_each : RunLinesOf → List ℕ → List ℕ → List ℕ
adding_each lines ordinals places = flat_map (λ (at : ℕ × ℕ). adding lines at.0 at.1) (zip ordinals places)

-- of so many lines, after others, the number of those that stand before a position of all
abbrev pub taken_by : ℕ → ℕ → ℕ → ℕ
taken_by position others count = min (position - others) count
