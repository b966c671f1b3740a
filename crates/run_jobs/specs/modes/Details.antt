-- Modes details and details-unit: the text of a detail table at a unit, and what a unit changes in it.
use Rattle.std.specs.Prelude.{◌==◌, ◌||◌, nat_lt, ℕ, Bool, List, [], ◌∷◌, ◌++◌, Option, Some, None, Result, Ok, Err, flat_map, if◌then◌else◌, unwrap_or}
use Rattle.pd_outside.specs.Files.{File}
use Rattle.plan_stages.specs.Stages.{in_stage, on_ok}
use Rattle.refusals.specs.declared.refusal.JobFault.{JobFault}
use Rattle.refusals.specs.declared.refusal.JobFault.TheVariants as job
use Rattle.request_words.specs.declared.usage.OptionName.TheVariants as option
use Rattle.request_words.specs.declared.usage.Request.{Request}
use Rattle.schema_facts.specs.Dictionaries.{Project}
use Rattle.life_intervals.specs.Generator.{last_unit}
use Rattle.update_box.specs.Parts.{ending_of}
use Rattle.update_box.specs.declared.parts.Content.{Content}
use Rattle.detail_plan.specs.Kept.{Kept}
use Rattle.detail_plan.specs.declared.detail.Detail.{Detail}
use Rattle.detail_lines.specs.Lines.{detail_deleted_text, detail_inserted_text, detail_text, detail_updated_text}
use Rattle.run_jobs.specs.Details.{detail_in}
use Rattle.run_jobs.specs.DueFiles.{contents_of, default_package, most_page_bytes, page_bytes, text_files}
use Rattle.run_jobs.specs.Formats.{made_files, named_files}
use Rattle.run_jobs.specs.declared.job.Told.{Told}
use Rattle.run_jobs.specs.declared.job.Told.TheVariants.{Text, Changes}

-- ---- what is told

-- the texts of the files
abbrev pub told_texts : Told → Project → Kept → ℕ → List (List ℕ)
told_texts Text plan kept unit = detail_text plan kept unit ∷ []
told_texts Changes plan kept unit =
    detail_deleted_text plan kept unit ∷ detail_updated_text plan kept unit ∷ detail_inserted_text plan kept unit ∷ []

-- texts as files of these names, or joined on the standard output where there are no names
abbrev pub files_by : Option (List (List ℕ)) → List (List ℕ) → List File
files_by None texts = text_files (flat_map (λ text. text) texts)
files_by (Some names) texts = named_files names texts

-- ---- what is asked

-- how many rows of the parent a package has: as many as are asked for, or 1,000, or as many as the pages take
abbrev pub detail_package : Request → Kept → ℕ
detail_package request kept = unwrap_or request.package (default_package request.workers kept.reach)

-- whether a unit is out of its range: past the last one, or 0, which changes nothing
abbrev pub is_refused : Told → Project → ℕ → Bool
is_refused Text plan unit = nat_lt (last_unit plan) unit
is_refused Changes plan unit = unit == 0 || nat_lt (last_unit plan) unit

-- the rows of a package, where it can be done: a unit out of its range is refused first, then packages that the pages don't take
abbrev pub details_asked : Told → Project → Request → Kept → Result ℕ JobFault
details_asked told plan request kept =
    if is_refused told plan request.unit then Err (job.Range option.Unit)
    else (if nat_lt most_page_bytes (page_bytes request.workers (detail_package request kept) kept.reach) then Err (job.Range option.Package)
    else Ok (detail_package request kept))

-- ---- what comes of it

-- the name of the file that holds this content of a detail table at a unit
abbrev pub detail_name : Detail → ℕ → Content → List ℕ
detail_name detail unit content = detail.name ++ ending_of unit content

abbrev pub details_files : Told → Project → Request → Kept → List File
details_files told plan request kept =
    made_files (detail_name kept.detail request.unit) request.out (contents_of told) (told_texts told plan kept request.unit)

-- what a declared detail table is due
abbrev pub details_of : Told → Project → Request → Kept → Result (List File) JobFault
details_of told plan request kept = on_ok (details_asked told plan request kept) (λ size. Ok (details_files told plan request kept))

-- what the modes are due over files: a file that declares no detail table is refused first
abbrev pub details_due : Told → Project → Request → List File → Result (List File) JobFault
details_due told plan request files = on_ok (in_stage job.Details (detail_in plan files request.spec)) (details_of told plan request)
