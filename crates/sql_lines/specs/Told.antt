-- The rows whose lines are made into statements, and the statements.
use Rattle.std.specs.Prelude.{◌≡◌, ◌<◌, ◌≤◌, ℕ, ◌+◌, ◌-◌, List, All, flat_map, length, true}
use Rattle.std.specs.List.{slice_range}
use Rattle.cohort_sizes.specs.Births.{born_count}
use Rattle.life_intervals.specs.Generator.{generator_of}
use Rattle.life_intervals.specs.Intervals.{is_live}
use Rattle.row_lines.specs.Runs.{RunLinesOf, layout_for, living_from}
use Rattle.sql_lines.specs.declared.frame.Verb.{Verb}
use Rattle.sql_lines.specs.declared.frame.Verb.TheVariants.{Insert, Update}
use Rattle.sql_lines.specs.declared.rows.Told.{Told}
use Rattle.sql_lines.specs.declared.rows.Told.TheVariants.{Listed, Living}
use Rattle.sql_lines.specs.Frames.{FrameOf, insertion_frame, update_frame}
use Rattle.sql_lines.specs.Statements.{insertion_of, update_of}

-- the ordinals of the rows that are told: of so many from a first one on those of the living, or those that are listed
abbrev pub ordinals_told : RunLinesOf → Told → List ℕ
ordinals_told lines (Living first count) = living_from lines first count
ordinals_told lines (Listed ordinals) = ordinals.now

-- how many rows are asked for
abbrev pub many_told : Told → ℕ
many_told (Living first count) = count
many_told (Listed ordinals) = length ordinals.now

-- where they end, counted by ordinals where they are living ones
abbrev pub end_told : Told → ℕ
end_told (Living first count) = first + count
end_told (Listed ordinals) = length ordinals.now

-- those of them from a number up to another
abbrev pub told_range : RunLinesOf → Told → ℕ → ℕ → List ℕ
told_range lines (Living first count) from end = living_from lines (first + from) (end - from)
told_range lines (Listed ordinals) from end = slice_range ordinals.now from end

-- rows that are born by the unit and alive at it
pub record AreListed (lines : RunLinesOf) (ordinals : List ℕ) : Type 0 where
  pub born : All (λ ordinal. ordinal < born_count (layout_for lines).births lines.unit) ordinals
  pub alive : All (λ ordinal. is_live (generator_of lines.plan) lines.table lines.unit ordinal ≡ true) ordinals

-- the rows are born by the unit, and those that are listed are alive
abbrev pub AreTold : RunLinesOf → Told → Type 0
AreTold lines (Living first count) = first + count ≤ born_count (layout_for lines).births lines.unit
AreTold lines (Listed ordinals) = AreListed lines ordinals.now

-- the frame of a table's statements of a kind, and the statement of a row
abbrev pub frame_for : RunLinesOf → Verb → FrameOf
frame_for lines Insert = insertion_frame lines.plan lines.table
frame_for lines Update = update_frame lines.plan lines.table

abbrev pub statement_for : RunLinesOf → Verb → ℕ → List ℕ
statement_for lines Insert ordinal = insertion_of lines.plan lines.unit lines.table ordinal
statement_for lines Update ordinal = update_of lines.plan lines.unit lines.table ordinal

-- those of the rows that are told
abbrev pub statements_told : RunLinesOf → Verb → Told → List ℕ
statements_told lines verb told = flat_map (statement_for lines verb) (ordinals_told lines told)
