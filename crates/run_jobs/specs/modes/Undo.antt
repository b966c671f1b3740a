-- Mode undo: what takes the texts of tables at a unit back to those at the unit before.
use Rattle.std.specs.Prelude.{ℕ, ◌+◌, ◌==◌, ◌||◌, nat_lt, List, Option, Some, None, Result, Ok, Err, flat_map, if◌then◌else◌, map, unwrap_or}
use Rattle.pd_outside.specs.Files.{File}
use Rattle.plan_stages.specs.Stages.{on_ok}
use Rattle.schema_model.specs.declared.table.Schema.{Schema}
use Rattle.schema_facts.specs.Dictionaries.{Project}
use Rattle.schema_facts.specs.Layout.{layout_of}
use Rattle.schema_facts.specs.TableFacts.{reach}
use Rattle.life_intervals.specs.Generator.{last_unit}
use Rattle.refusals.specs.declared.refusal.JobFault.{JobFault}
use Rattle.refusals.specs.declared.refusal.JobFault.TheVariants.{Range}
use Rattle.request_words.specs.declared.usage.OptionName.TheVariants as option
use Rattle.request_words.specs.declared.usage.Request.{Request}
use Rattle.undo_streams.specs.Packages.{Packages}
use Rattle.undo_streams.specs.UndoText.{undo_text}
use Rattle.undo_streams.specs.declared.undo_packer.TheConstants.{WORD_AND_PLACE}
use Rattle.update_box.specs.Packages.{chosen_places}
use Rattle.update_box.specs.Parts.{name_at}
use Rattle.update_box.specs.declared.parts.Job.{Job}
use Rattle.run_jobs.specs.DueFiles.{chosen_table, default_package, most_page_bytes, page_bytes, text_files}
use Rattle.run_jobs.specs.Formats.{in_directory, undo_name_of}

-- ---- what is asked

-- the most bytes of a line of the undo text of any table
abbrev pub undo_reach : Project → ℕ
undo_reach plan = WORD_AND_PLACE + reach (layout_of plan)

-- how many lines a package has
abbrev pub undo_package : Project → Request → ℕ
undo_package plan request = unwrap_or request.package (default_package request.workers (undo_reach plan))

-- what a request asks of the table that is chosen, or of all, whole
abbrev pub undo_job : Project → Request → Option ℕ → Job
undo_job plan request table = record { unit = request.unit; table = table; «package» = undo_package plan request; node = 0; nodes = 1 }

-- the same where it can be done: a table that isn't there is refused first, and then packages that the pages don't take
abbrev pub undo_of : Project → Request → Option (Option ℕ) → Result Job JobFault
undo_of plan request None = Err (Range option.Table)
undo_of plan request (Some table) =
    if nat_lt most_page_bytes (page_bytes request.workers (undo_package plan request) (undo_reach plan)) then Err (Range option.Package)
    else Ok (undo_job plan request table)

-- unit 0, which changes nothing, and a unit past the last one are refused before
abbrev pub undo_asked : Request → Project → Result Job JobFault
undo_asked request plan =
    if request.unit == 0 || nat_lt (last_unit plan) request.unit then Err (Range option.Unit)
    else undo_of plan request (chosen_table plan.schema request.table)

-- the packages of the undo text of the table at a place
abbrev pub undo_packages : Project → Job → ℕ → Packages
undo_packages plan job place = record { plan = plan; table = place; unit = job.unit; size = job.package }

-- ---- what is due

-- the name of the file of the table at a place, its path, and the file
abbrev pub undo_name : Schema → ℕ → ℕ → List ℕ
undo_name schema unit place = undo_name_of (name_at schema place) unit

abbrev pub undo_path : Project → ℕ → List ℕ → ℕ → List ℕ
undo_path plan unit directory place = in_directory directory (undo_name plan.schema unit place)

abbrev pub undo_file : Project → ℕ → List ℕ → ℕ → File
undo_file plan unit directory place = record { name = undo_path plan unit directory place; bytes = undo_text plan unit place }

-- the files of a job: one for each table in a directory, or all joined on the standard output
abbrev pub undo_files : Project → Option (List ℕ) → Job → List File
undo_files plan None job = text_files (flat_map (undo_text plan job.unit) (chosen_places plan job.table))
undo_files plan (Some directory) job = map (undo_file plan job.unit directory) (chosen_places plan job.table)

-- what the mode is due
abbrev pub undo_due : Request → Project → Result (List File) JobFault
undo_due request plan = on_ok (undo_asked request plan) (λ job. Ok (undo_files plan request.out job))
