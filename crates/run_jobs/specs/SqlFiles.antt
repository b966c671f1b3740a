-- The files in SQL of what a request asks of tables.
use Rattle.std.specs.Prelude.{ℕ, nat_lt, List, map, Option, Some, None, Result, Ok, Err, if◌then◌else◌}
use Rattle.pd_outside.specs.Files.{File}
use Rattle.plan_stages.specs.Stages.{on_ok}
use Rattle.refusals.specs.declared.refusal.JobFault.{JobFault}
use Rattle.refusals.specs.declared.refusal.JobFault.TheVariants.{Range}
use Rattle.request_words.specs.declared.usage.Format.{Format}
use Rattle.request_words.specs.declared.usage.Format.TheVariants.{Copy, Csv, Sql}
use Rattle.request_words.specs.declared.usage.OptionName.TheVariants as option
use Rattle.request_words.specs.declared.usage.Request.{Request}
use Rattle.schema_facts.specs.Dictionaries.{Project}
use Rattle.schema_facts.specs.Layout.{Layout, layout_of}
use Rattle.schema_facts.specs.TableFacts.{reach}
use Rattle.update_box.specs.Packages.{chosen_places}
use Rattle.update_box.specs.Parts.{Part, parts_of}
use Rattle.update_box.specs.declared.parts.Job.{Job}
use Rattle.sql_lines.specs.Reach.{statement_reach}
use Rattle.sql_lines.specs.Script.{part_statements, snapshot_script, unit_script}
use Rattle.run_jobs.specs.DueFiles.{asked, asked_by, contents_of}
use Rattle.run_jobs.specs.Formats.{file_name, made_files}
use Rattle.run_jobs.specs.declared.job.Told.{Told}
use Rattle.run_jobs.specs.declared.job.Told.TheVariants.{Text, Changes}

-- ---- what is asked

-- the most bytes that a statement may take, for which each package of any number of workers has one at least
abbrev pub statement_limit : ℕ
statement_limit = 131072

-- a job, where no statement on a plan's tables takes more
abbrev pub unless_long : Project → Job → Result Job JobFault
unless_long plan job = if nat_lt statement_limit (statement_reach (layout_of plan)) then Err (Range option.Format) else Ok job

-- what a request asks of tables, in packages of statements: statements that are too long are refused last
abbrev pub statements_asked : Project → Request → Result Job JobFault
statements_asked plan request = on_ok (asked_by (statement_reach (layout_of plan)) plan request) (unless_long plan)

-- what a request asks of tables, in a format
abbrev pub asked_in : Format → Project → Request → Result Job JobFault
asked_in Copy plan request = asked plan request
asked_in Csv plan request = asked plan request
asked_in Sql plan request = statements_asked plan request

-- the most bytes of a line, or of a statement
abbrev pub reach_in : Format → Layout → ℕ
reach_in Copy layout = reach layout
reach_in Csv layout = reach layout
reach_in Sql layout = statement_reach layout

-- ---- what is due

-- the parts of the script of what is told of the tables that are chosen
abbrev pub script_of : Told → Project → Option ℕ → List Part
script_of Text plan table = snapshot_script plan table
script_of Changes plan table = unit_script plan table

-- the parts in the order in which they are written: those of files in a directory table by table, and those on the standard output as a script
abbrev pub parts_told : Told → Project → Option (List ℕ) → Option ℕ → List Part
parts_told told plan None table = script_of told plan table
parts_told told plan (Some directory) table = parts_of (contents_of told) (chosen_places plan table)

-- the files of parts, and of a job
abbrev pub files_of_parts : Project → Option (List ℕ) → Job → List Part → List File
files_of_parts plan out job parts = made_files (file_name Sql plan.schema job.unit) out parts (map (part_statements plan job) parts)

abbrev pub statement_files : Told → Project → Option (List ℕ) → Job → List File
statement_files told plan out job = files_of_parts plan out job (parts_told told plan out job.table)
