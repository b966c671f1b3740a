-- Mode snapshot: the rows of tables at a unit.
use Rattle.std.specs.Prelude.{nat_lt, List, Result, Err, if◌then◌else◌}
use Rattle.pd_outside.specs.Files.{File}
use Rattle.schema_facts.specs.Dictionaries.{Project}
use Rattle.life_intervals.specs.Generator.{last_unit}
use Rattle.refusals.specs.declared.refusal.JobFault.{JobFault}
use Rattle.refusals.specs.declared.refusal.JobFault.TheVariants.{Range}
use Rattle.request_words.specs.declared.usage.OptionName.TheVariants as option
use Rattle.request_words.specs.declared.usage.Request.{Request}
use Rattle.update_box.specs.declared.parts.Job.{Job}
use Rattle.run_jobs.specs.CsvFiles.{IsDueIn}
use Rattle.run_jobs.specs.SqlFiles.{asked_in}
use Rattle.run_jobs.specs.declared.job.Told.TheVariants.{Text}

-- what is asked of the tables: a unit past the last one is refused first
abbrev pub snapshot_asked : Request → Project → Result Job JobFault
snapshot_asked request plan = if nat_lt (last_unit plan) request.unit then Err (Range option.Unit) else asked_in request.format plan request

-- what the mode is due
abbrev pub IsSnapshotDue : Request → Project → Result (List File) JobFault → Type 0
IsSnapshotDue request plan answer = IsDueIn request.format Text request plan (snapshot_asked request plan) answer
