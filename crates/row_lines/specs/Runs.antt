-- The lines at a unit of runs of a table's rows, and what the code keeps of the rows of a run.
use Rattle.std.specs.Prelude.{◌≡◌, ◌<◌, ℕ, ◌+◌, ◌==◌, true, List, [], ◌∷◌, ◌++◌, filter, flat_map, get_or, if◌then◌else◌, length}
use Rattle.std.specs.List.{range_with_len}
use Rattle.row_text.specs.Fields.{field_text}
use Rattle.schema_facts.specs.Dictionaries.{Project}
use Rattle.schema_facts.specs.Layout.{TableLayout, layout_of}
use Rattle.life_intervals.specs.Generator.{generator_of, last_unit, table_of}
use Rattle.life_intervals.specs.Intervals.{change_unit, is_live, row_at}
use Rattle.life_intervals.specs.Keys.{key_of}
use Rattle.life_intervals.specs.Runs.{IsRun}
use Rattle.row_lines.specs.Lines.{field, key_line_of, line_of}

-- the lines at a unit of the rows of the table at a place
pub record RunLinesOf : Type 0 where
  pub plan : Project
  pub table : ℕ
  pub unit : ℕ

-- the layout of the table
abbrev pub layout_for : RunLinesOf → TableLayout
layout_for lines = table_of lines.plan lines.table

-- the line of the row of an ordinal
abbrev pub line_for : RunLinesOf → ℕ → List ℕ
line_for lines ordinal = line_of (generator_of lines.plan) lines.unit lines.table ordinal

-- the lines of the rows of some ordinals
abbrev pub listed_text : RunLinesOf → List ℕ → List ℕ
listed_text lines ordinals = flat_map (line_of (generator_of lines.plan) lines.unit lines.table) ordinals

-- of the ordinals from a first one on, so many, those of the rows that are alive
abbrev pub living_from : RunLinesOf → ℕ → ℕ → List ℕ
living_from lines first count = filter (is_live (generator_of lines.plan) lines.table lines.unit) (range_with_len first count)

-- the lines of these
abbrev pub run_text : RunLinesOf → ℕ → ℕ → List ℕ
run_text lines first count = listed_text lines (living_from lines first count)

-- the key lines of the rows of the table at a place that have some ordinals
abbrev pub keys_text : Project → ℕ → List ℕ → List ℕ
keys_text plan table ordinals = flat_map (key_line_of (generator_of plan) (last_unit plan) table) ordinals

-- the byte after the field of the column at a place, of so many: the delimiter, and the line feed after the last
abbrev pub behind : ℕ → ℕ → ℕ → ℕ
behind delimiter count column = if column + 1 == count then 10 else delimiter

-- what the row of an ordinal holds in the column at a place, as it is written
abbrev pub text_at : RunLinesOf → ℕ → ℕ → List ℕ
text_at lines ordinal column =
    field_text (layout_of lines.plan).delimiter
    (field (generator_of lines.plan) lines.unit lines.table (row_at (generator_of lines.plan) lines.table lines.unit ordinal) column)

-- that, with the byte after it
abbrev pub text_behind : RunLinesOf → ℕ → ℕ → List ℕ
text_behind lines ordinal column =
    text_at lines ordinal column ++ behind (layout_of lines.plan).delimiter (length (layout_for lines).columns) column ∷ []

-- rows that are born by the unit and alive, each with the unit of its birth
pub record AreLiving (lines : RunLinesOf) (ordinals births : List ℕ) : Type 0 where
  pub run : IsRun lines.plan lines.table lines.unit ordinals births
  pub alive : (i : ℕ) → i < length ordinals → is_live (generator_of lines.plan) lines.table lines.unit (get_or ordinals i 0) ≡ true

-- the units of their last changes, and their keys
pub record AreChanges (lines : RunLinesOf) (ordinals changes : List ℕ) : Type 0 where
  pub same_length : length changes ≡ length ordinals
  pub each : (i : ℕ) → i < length ordinals → get_or changes i 0 ≡ change_unit (generator_of lines.plan) lines.table lines.unit (get_or ordinals i 0)

pub record AreKeys (lines : RunLinesOf) (ordinals keys : List ℕ) : Type 0 where
  pub same_length : length keys ≡ length ordinals
  pub each : (i : ℕ) → i < length ordinals → get_or keys i 0 ≡ key_of (generator_of lines.plan) lines.table (last_unit lines.plan) (get_or ordinals i 0)
