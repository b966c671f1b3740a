-- What is told of a row: when it is born and gone, and what it holds at a unit.
use Rattle.std.specs.Prelude.{ℕ, ◌+◌, ◌-◌, ◌==◌, ◌++◌, Bool, is_none, is_some, nat_le, List, [], find, Option, Some, None, codes, decimal, if◌then◌else◌}
use Rattle.std.specs.List.{range_with_len}
use Rattle.std.specs.Option.{option_map}
use Rattle.schema_facts.specs.Dictionaries.{Project}
use Rattle.schema_facts.specs.Layout.{table_at}
use Rattle.life_intervals.specs.Generator.{Generator, generator_of, last_unit, rows_in_all}
use Rattle.cohort_sizes.specs.Births.{birth}
use Rattle.life_intervals.specs.Keys.{key_of}
use Rattle.life_intervals.specs.Rows.{Row}
use Rattle.row_lines.specs.Lines.{held_row, line}

-- the birth unit of the row of an ordinal that is born by a last unit
abbrev pub birth_at : Generator → ℕ → ℕ → ℕ → ℕ
birth_at generator last place ordinal = birth (table_at generator.tables place).births last ordinal

-- the first unit after its birth, up to the last one, at which its table doesn't hold it; None where it holds it to the end
abbrev pub gone_at : Generator → ℕ → ℕ → ℕ → Option ℕ
gone_at generator last place ordinal =
    find (λ unit. is_none (held_row generator place unit ordinal))
    (range_with_len (birth_at generator last place ordinal + 1) (last - birth_at generator last place ordinal))

-- that unit as it is told
abbrev pub gone_text : Option ℕ → List ℕ
gone_text None = codes "never"
gone_text (Some unit) = decimal unit

-- how a row stands at a unit, by whether it is born by then and whether its table holds it
abbrev pub state_text : Bool → Bool → List ℕ
state_text born held = if born then (if held then codes "live" else codes "dead") else codes "unborn"

-- what is told at a unit of a row that its table holds: the unit of its last change, and its line
abbrev pub held_text : Generator → ℕ → ℕ → Option Row → List ℕ
held_text generator unit place None = []
held_text generator unit place (Some row) = codes "changed " ++ decimal row.changed ++ codes "\n" ++ line generator unit place row

-- the report at a unit on the row of an ordinal that is born by a last unit: its birth, when it is gone, how it stands at the unit, and
-- what it holds then
unfoldable pub row_report : Generator → ℕ → ℕ → ℕ → ℕ → List ℕ
row_report generator last place unit ordinal =
    codes "born " ++ decimal (birth_at generator last place ordinal) ++ codes "\n"
    ++ codes "gone " ++ gone_text (gone_at generator last place ordinal) ++ codes "\n"
    ++ codes "state "
    ++ state_text (nat_le (birth_at generator last place ordinal) unit) (is_some (held_row generator place unit ordinal))
    ++ codes "\n"
    ++ held_text generator unit place (held_row generator place unit ordinal)

-- the row of the table at a place that has a key, of those that are born in all units; None where none has it
abbrev pub row_with_key : Project → ℕ → ℕ → Option ℕ
row_with_key plan place key =
    find (λ ordinal. key_of (generator_of plan) place (last_unit plan) ordinal == key) (range_with_len 0 (rows_in_all plan place))

-- the report on the row with a key; None where no row has it
abbrev pub report_on : Project → ℕ → ℕ → ℕ → Option (List ℕ)
report_on plan place unit key = option_map (row_report (generator_of plan) (last_unit plan) place unit) (row_with_key plan place key)
