-- Mode unit: what a unit changes in tables.
use Rattle.std.specs.Prelude.{◌==◌, ◌||◌, nat_lt, List, Result, Err, if◌then◌else◌}
use Rattle.pd_outside.specs.Files.{File}
use Rattle.schema_facts.specs.Dictionaries.{Project}
use Rattle.life_intervals.specs.Generator.{last_unit}
use Rattle.refusals.specs.declared.refusal.JobFault.{JobFault}
use Rattle.refusals.specs.declared.refusal.JobFault.TheVariants.{Range}
use Rattle.request_words.specs.declared.usage.OptionName.TheVariants as option
use Rattle.request_words.specs.declared.usage.Request.{Request}
use Rattle.update_box.specs.declared.parts.Job.{Job}
use Rattle.run_jobs.specs.CsvFiles.{IsDueIn}
use Rattle.run_jobs.specs.SqlFiles.{asked_in}
use Rattle.run_jobs.specs.declared.job.Told.TheVariants.{Changes}

-- what is asked of the tables: unit 0, which changes nothing, and a unit past the last one are refused first
abbrev pub unit_asked : Request → Project → Result Job JobFault
unit_asked request plan = if request.unit == 0 || nat_lt (last_unit plan) request.unit then Err (Range option.Unit) else asked_in request.format plan request

-- what the mode is due
abbrev pub IsUnitDue : Request → Project → Result (List File) JobFault → Type 0
IsUnitDue request plan answer = IsDueIn request.format Changes request plan (unit_asked request plan) answer
