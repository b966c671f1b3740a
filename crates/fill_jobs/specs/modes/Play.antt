-- Mode play: the units are played into a store, and how many rows each table holds at the last of them is told, on the standard output.
use Rattle.std.specs.Prelude.{ℕ, ◌++◌, List, length, flat_map, nat_lt, if◌then◌else◌, Result, Ok, Err, codes, decimal}
use Rattle.std.specs.List.{range_with_len}
use Rattle.pd_outside.specs.Files.{File}
use Rattle.life_intervals.specs.Generator.{generator_of, last_unit}
use Rattle.life_intervals.specs.Simulation.{rows_at}
use Rattle.refusals.specs.declared.refusal.JobFault.{JobFault}
use Rattle.refusals.specs.declared.refusal.JobFault.TheVariants.{Range}
use Rattle.request_words.specs.declared.usage.OptionName.TheVariants as option
use Rattle.request_words.specs.declared.usage.Request.{Request}
use Rattle.schema_facts.specs.Dictionaries.{Project}
use Rattle.update_box.specs.Parts.{name_at}
use Rattle.run_jobs.specs.DueFiles.{text_files}

-- what is told of a table: its name, and how many rows it holds at a unit
abbrev pub play_line : Project → ℕ → ℕ → List ℕ
play_line plan unit place =
    name_at plan.schema place ++ codes "\t"
    ++ decimal (length (rows_at (generator_of plan) place unit)) ++ codes "\n"

-- the lines of the first tables of a plan, as many as `count`
unfoldable pub play_lines : Project → ℕ → ℕ → List ℕ
play_lines plan unit count = flat_map (play_line plan unit) (range_with_len 0 count)

-- the file of a request to play: a line for each table on the standard output
abbrev pub play_files : Project → ℕ → List File
play_files plan unit = text_files (play_lines plan unit (length plan.schema.tables))

-- what the mode is due: a unit past the last one is refused
abbrev pub play_due : Request → Project → Result (List File) JobFault
play_due request plan = if nat_lt (last_unit plan) request.to then Err (Range option.To) else Ok (play_files plan request.to)
