-- The rows of a detail table's parent, by their ordinals.
use Rattle.std.specs.Prelude.{ℕ, List}
use Rattle.cohort_sizes.specs.Births.{born_count}
use Rattle.schema_facts.specs.Dictionaries.{Project}
use Rattle.life_intervals.specs.Generator.{generator_of, table_of}
use Rattle.life_intervals.specs.Intervals.{row_at}
use Rattle.detail_plan.specs.Kept.{Kept}
use Rattle.detail_lines.specs.declared.detail_lines.LineKind.{LineKind}
use Rattle.detail_lines.specs.declared.detail_lines.LineKind.TheVariants.{Whole, KeysAlone}
use Rattle.detail_lines.specs.Lines.{key_lines_over, lines_over, parent_place}

-- the lines at a unit of the row of an ordinal, whole or with their keys alone
abbrev pub row_text : Project → Kept → LineKind → ℕ → ℕ → List ℕ
row_text plan kept Whole unit ordinal =
    lines_over plan kept (row_at (generator_of plan) (parent_place plan kept.detail) unit ordinal)
row_text plan kept KeysAlone unit ordinal =
    key_lines_over plan kept (row_at (generator_of plan) (parent_place plan kept.detail) unit ordinal)

-- how many rows of the parent are born by a unit
abbrev pub born_by : Project → Kept → ℕ → ℕ
born_by plan kept unit = born_count (table_of plan (parent_place plan kept.detail)).births unit
