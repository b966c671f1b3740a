-- Mode row: the report on a row, on the standard output.
use Rattle.std.specs.Prelude.{ℕ, nat_lt, List, Option, Some, None, Result, Ok, Err, if◌then◌else◌}
use Rattle.std.specs.Option.{option_and_then}
use Rattle.pd_outside.specs.Files.{File}
use Rattle.schema_facts.specs.Dictionaries.{Project}
use Rattle.schema_plan.specs.Planned.{table_named}
use Rattle.life_intervals.specs.Generator.{last_unit}
use Rattle.row_lines.specs.Reports.{report_on}
use Rattle.refusals.specs.declared.refusal.JobFault.{JobFault}
use Rattle.refusals.specs.declared.refusal.JobFault.TheVariants.{Range}
use Rattle.request_words.specs.declared.usage.OptionName.TheVariants as option
use Rattle.request_words.specs.declared.usage.Request.{Request}
use Rattle.run_jobs.specs.DueFiles.{text_files}

-- the file of the report on a row, where a row has the key
abbrev pub of_report : Option (List ℕ) → Result (List File) JobFault
of_report None = Err (Range option.Key)
of_report (Some report) = Ok (text_files report)

-- the same, where the schema has the table that is named
abbrev pub of_row : Request → Project → Option ℕ → Result (List File) JobFault
of_row request plan None = Err (Range option.Table)
of_row request plan (Some place) = of_report (report_on plan place request.unit request.key)

-- what the mode is due: a unit past the last one is refused first, then a table that isn't there, and then a key that no row has of those
-- that are born in all units
abbrev pub row_due : Request → Project → Result (List File) JobFault
row_due request plan =
    if nat_lt (last_unit plan) request.unit then Err (Range option.Unit)
    else of_row request plan (option_and_then (table_named plan.schema) request.table)
