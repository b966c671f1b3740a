-- The files in CSV of what a request asks of tables.
use Rattle.std.specs.Prelude.{◌≡◌, ℕ, nat_lt, Bool, true, false, List, length, map, Result, Ok, Err}
use Rattle.std.specs.List.{sum_by}
use Rattle.pd_outside.specs.Files.{File}
use Rattle.refusals.specs.declared.refusal.JobFault.{JobFault}
use Rattle.refusals.specs.declared.refusal.JobFault.TheVariants.{Range}
use Rattle.request_words.specs.declared.usage.Format.{Format}
use Rattle.request_words.specs.declared.usage.Format.TheVariants.{Copy, Csv, Sql}
use Rattle.request_words.specs.declared.usage.Header.{Header}
use Rattle.request_words.specs.declared.usage.OptionName.TheVariants as option
use Rattle.request_words.specs.declared.usage.Request.{Request}
use Rattle.schema_model.specs.declared.table.Schema.{Schema}
use Rattle.schema_facts.specs.Dictionaries.{Project}
use Rattle.schema_facts.specs.Layout.{layout_of}
use Rattle.schema_plan.specs.Rules.{column_names}
use Rattle.update_box.specs.Packages.{chosen_places, packages_of, share_text}
use Rattle.update_box.specs.Parts.{Part, parts_of}
use Rattle.update_box.specs.declared.parts.Content.{Content}
use Rattle.update_box.specs.declared.parts.Job.{Job}
use Rattle.plan_stages.specs.Stages.{on_ok}
use Rattle.run_jobs.specs.DueFiles.{contents_of, table_files}
use Rattle.run_jobs.specs.Formats.{AreCsvOf, each_after, file_name, header_at, heading_of, made_files, names_for}
use Rattle.run_jobs.specs.SqlFiles.{statement_files}
use Rattle.run_jobs.specs.declared.job.Told.{Told}

-- the most bytes that the texts in COPY text form have together of which CSV is made
abbrev pub csv_limit : ℕ
csv_limit = 268435456

-- the texts in COPY text form of such contents of a job's tables, one for each file
abbrev pub texts_asked : List Content → Project → Job → List (List ℕ)
texts_asked contents plan job = map (share_text plan job.unit) (packages_of contents plan job).shares

-- what the file of a part begins with
abbrev pub part_heading : Header → Schema → Part → List ℕ
part_heading asked schema part = heading_of asked (names_for (column_names schema part.place) part.content)

abbrev pub job_headings : List Content → Project → Request → Job → List (List ℕ)
job_headings contents plan request job =
    map (part_heading (header_at job.node request.header) plan.schema) (parts_of contents (chosen_places plan job.table))

-- they have more bytes together than they may, or each is written as CSV, after its heading
abbrev pub IsCsvUnless : Bool → List Content → Project → Request → Job → Result (List File) JobFault → Type 0
IsCsvUnless true contents plan request job answer = answer ≡ Err (Range option.Format)
IsCsvUnless false contents plan request job answer =
    (csvs : List (List ℕ)) × AreCsvOf (layout_of plan).delimiter (texts_asked contents plan job) csvs
    × (answer ≡ Ok (made_files (file_name Csv plan.schema job.unit) request.out (parts_of contents (chosen_places plan job.table))
    (each_after (job_headings contents plan request job) csvs)))

abbrev pub IsCsvOfJob : List Content → Project → Request → Job → Result (List File) JobFault → Type 0
IsCsvOfJob contents plan request job answer =
    IsCsvUnless (nat_lt csv_limit (sum_by length (texts_asked contents plan job))) contents plan request job answer

abbrev pub IsCsvAsked : List Content → Request → Project → Result Job JobFault → Result (List File) JobFault → Type 0
IsCsvAsked contents request plan (Err fault) answer = answer ≡ Err fault
IsCsvAsked contents request plan (Ok job) answer = IsCsvOfJob contents plan request job answer

-- the files of what is told of the tables that are asked for, in a format
abbrev pub IsDueIn : Format → Told → Request → Project → Result Job JobFault → Result (List File) JobFault → Type 0
IsDueIn Copy told request plan job answer = answer ≡ on_ok job (λ j. Ok (table_files (contents_of told) plan request.out j))
IsDueIn Csv told request plan job answer = IsCsvAsked (contents_of told) request plan job answer
IsDueIn Sql told request plan job answer = answer ≡ on_ok job (λ j. Ok (statement_files told plan request.out j))
