-- Words and files come to one verdict.
use Rattle.std.specs.Prelude.{nat_lt}
use Rattle.std.specs.List.{range_with_len, sum_by}
use Rattle.std.proofs.Common.{◌≡◌, ℕ, Bool, true, false, List, length, Result, Ok, Err, ap, sym, ◌∙◌}
use Rattle.pd_outside.specs.Files.{File}
use Rattle.plan_stages.specs.Stages.{in_stage}
use Rattle.refusals.specs.declared.refusal.JobFault.{JobFault}
use Rattle.refusals.specs.declared.refusal.PlanFault.{PlanFault}
use Rattle.refusals.specs.declared.refusal.Refusal.{Refusal}
use Rattle.refusals.specs.declared.refusal.Refusal.TheVariants as refusal
use Rattle.request_words.specs.Words.{request}
use Rattle.request_words.specs.declared.usage.Format.{Format}
use Rattle.request_words.specs.declared.usage.Format.TheVariants.{Copy, Csv, Sql}
use Rattle.request_words.specs.declared.usage.Mode.TheVariants.{Check, Snapshot, Unit, Row, Apply, Sample, Play, Details, DetailsUnit, DetailsApply, Undo, Revert}
use Rattle.request_words.specs.declared.usage.Mode.{Mode}
use Rattle.request_words.specs.declared.usage.Request.{Request}
use Rattle.request_words.specs.declared.usage.UsageFault.{UsageFault}
use Rattle.row_text.specs.Fields.{IsDelimiter}
use Rattle.schema_facts.specs.Dictionaries.{Project}
use Rattle.schema_facts.specs.Layout.{layout_of}
use Rattle.schema_facts.specs.TableFacts.{reach}
use Rattle.stream_apply.specs.declared.key_fields.KeyFields.TheVariants.{One}
use Rattle.pdgf_run.specs.Verdict.{IsInMode, IsOfRequest, IsPlanned, IsVerdict, plan_for}
use Rattle.update_box.specs.Packages.{chosen_places}
use Rattle.update_box.specs.Parts.{parts_of}
use Rattle.update_box.specs.declared.parts.Content.{Content}
use Rattle.update_box.specs.declared.parts.Job.{Job}
use Rattle.run_jobs.specs.CsvFiles.{IsCsvAsked, IsCsvUnless, IsDueIn, csv_limit, job_headings, texts_asked}
use Rattle.run_jobs.specs.DueFiles.{contents_of, most_page_bytes, package_of, page_bytes, text_files}
use Rattle.run_jobs.specs.Formats.{each_after, file_name, made_files}
use Rattle.run_jobs.specs.declared.job.Told.{Told}
use Rattle.run_jobs.specs.declared.job.Told.TheVariants.{Changes, Text}
use Rattle.replay_files.specs.modes.Apply.{apply_of, tables_asked}
use Rattle.table_jobs.specs.modes.Sample.{IsLaterText, IsSampleUnless, later_units, summary_of, text_and_changes}
use Rattle.detail_plan.specs.Kept.{Kept}
use Rattle.refusals.specs.declared.refusal.DetailsCause.{DetailsCause}
use Rattle.run_jobs.specs.Details.{detail_in}
use Rattle.replay_files.specs.modes.DetailsApply.{AreDeclared, apply_of_detail, detail_asked}
use Rattle.replay_files.specs.modes.Revert.{revert_of, tables_reverted}
use Rattle.table_jobs.specs.modes.Snapshot.{snapshot_asked}
use Rattle.table_jobs.specs.modes.Unit.{unit_asked}
use Rattle.replay_files.proofs.ReplayOutcomeLemmas.{one_replay, one_text}
use Rattle.run_jobs.proofs.CsvLemmas.{one_image, one_written}

-- ---- a request

-- files of tables in a format
one_csv_unless : (past : Bool) (contents : List Content) (plan : Project) (r : Request) (job : Job) (answer other : Result (List File) JobFault) → IsDelimiter (layout_of plan).delimiter →
    IsCsvUnless past contents plan r job answer → IsCsvUnless past contents plan r job other → answer ≡ other
one_csv_unless true contents plan r job answer other delimits is other_is = is ∙ sym other_is
one_csv_unless false contents plan r job answer other delimits is other_is =
    is.2
    ∙ ap (λ (csvs : List (List ℕ)). Ok (made_files (file_name Csv plan.schema job.unit) r.out (parts_of contents (chosen_places plan job.table)) (each_after (job_headings contents plan r job) csvs)))
    (one_written Csv (layout_of plan).delimiter (texts_asked contents plan job) is.0 other_is.0 delimits is.1 other_is.1)
    ∙ sym other_is.2

one_csv_asked : (contents : List Content) (r : Request) (plan : Project) (job : Result Job JobFault) (answer other : Result (List File) JobFault) → IsDelimiter (layout_of plan).delimiter →
    IsCsvAsked contents r plan job answer → IsCsvAsked contents r plan job other → answer ≡ other
one_csv_asked contents r plan (Ok job) answer other delimits is other_is =
    one_csv_unless (nat_lt csv_limit (sum_by length (texts_asked contents plan job))) contents plan r job answer other delimits is other_is
one_csv_asked contents r plan (Err fault) answer other delimits is other_is = is ∙ sym other_is

one_due_in : (format : Format) (told : Told) (r : Request) (plan : Project) (job : Result Job JobFault) (answer other : Result (List File) JobFault) →
    IsDelimiter (layout_of plan).delimiter → IsDueIn format told r plan job answer → IsDueIn format told r plan job other → answer ≡ other
one_due_in Copy told r plan job answer other delimits is other_is = is ∙ sym other_is
one_due_in Csv told r plan job answer other delimits is other_is = one_csv_asked (contents_of told) r plan job answer other delimits is other_is
one_due_in Sql told r plan job answer other delimits is other_is = is ∙ sym other_is

-- a sample's summary
one_later : (plan : Project) (place : ℕ) (text other : List ℕ) → IsDelimiter (layout_of plan).delimiter → IsLaterText plan place text → IsLaterText plan place other → text ≡ other
one_later plan place text other delimits is other_is =
    one_text One (layout_of plan).delimiter (text_and_changes plan place (later_units plan)) text other delimits is other_is

one_sample : (past : Bool) (plan : Project) (answer other : Result (List File) JobFault) → IsDelimiter (layout_of plan).delimiter →
    IsSampleUnless past plan answer → IsSampleUnless past plan other → answer ≡ other
one_sample true plan answer other delimits is other_is = is ∙ sym other_is
one_sample false plan answer other delimits is other_is =
    let one = is.1 in
    let two = other_is.1 in
    let same : one.0 ≡ two.0 =
    one_image (IsLaterText plan) (range_with_len 0 (length plan.schema.tables)) one.0 two.0 (λ place text another. one_later plan place text another delimits) one.1 two.1 in
    is.2 ∙ ap (λ (text : List ℕ). Ok (text_files text)) (one.2 ∙ ap (summary_of plan) same ∙ sym two.2) ∙ sym other_is.2

-- what is after a declaration
one_declared : (plan : Project) (r : Request) (files : List File) (declared : Result Kept DetailsCause) (answer other : Result (List File) JobFault) → IsDelimiter (layout_of plan).delimiter →
    AreDeclared plan r files declared answer → AreDeclared plan r files declared other → answer ≡ other
one_declared plan r files (Ok kept) answer other delimits is other_is =
    one_replay apply_of_detail (layout_of plan).delimiter r files (detail_asked plan r kept.detail) answer other delimits is other_is
one_declared plan r files (Err cause) answer other delimits is other_is = is ∙ sym other_is

one_in_mode : (mode : Mode) (r : Request) (plan : Project) (files : List File) (answer other : Result (List File) JobFault) → IsDelimiter (layout_of plan).delimiter →
    IsInMode mode r plan files answer → IsInMode mode r plan files other → answer ≡ other
one_in_mode Check r plan files answer other delimits is other_is = is ∙ sym other_is
one_in_mode Snapshot r plan files answer other delimits is other_is = one_due_in r.format Text r plan (snapshot_asked r plan) answer other delimits is other_is
one_in_mode Unit r plan files answer other delimits is other_is = one_due_in r.format Changes r plan (unit_asked r plan) answer other delimits is other_is
one_in_mode Row r plan files answer other delimits is other_is = is ∙ sym other_is
one_in_mode Apply r plan files answer other delimits is other_is =
    one_replay (apply_of plan r) (layout_of plan).delimiter r files (tables_asked plan r) answer other delimits is other_is
one_in_mode Sample r plan files answer other delimits is other_is =
    one_sample (nat_lt most_page_bytes (page_bytes r.workers (package_of plan r) (reach (layout_of plan)))) plan answer other delimits is other_is
one_in_mode Play r plan files answer other delimits is other_is = is ∙ sym other_is
one_in_mode Details r plan files answer other delimits is other_is = is ∙ sym other_is
one_in_mode DetailsUnit r plan files answer other delimits is other_is = is ∙ sym other_is
one_in_mode DetailsApply r plan files answer other delimits is other_is = one_declared plan r files (detail_in plan files r.spec) answer other delimits is other_is
one_in_mode Undo r plan files answer other delimits is other_is = is ∙ sym other_is
one_in_mode Revert r plan files answer other delimits is other_is =
    one_replay (revert_of plan) (layout_of plan).delimiter r files (tables_reverted plan r) answer other delimits is other_is

one_planned : (r : Request) (files : List File) (made : Result Project PlanFault) (answer other : Result (List File) JobFault) →
    ((plan : Project) → IsDelimiter (layout_of plan).delimiter) → IsPlanned r files made answer → IsPlanned r files made other → answer ≡ other
one_planned r files (Ok plan) answer other delimits is other_is = one_in_mode r.mode r plan files answer other (delimits plan) is other_is
one_planned r files (Err fault) answer other delimits is other_is = is ∙ sym other_is

one_of_request : (files : List File) (r : Result Request UsageFault) (verdict other : Result (List File) Refusal) → ((plan : Project) → IsDelimiter (layout_of plan).delimiter) →
    IsOfRequest files r verdict → IsOfRequest files r other → verdict ≡ other
one_of_request files (Err fault) verdict other delimits is other_is = is ∙ sym other_is
one_of_request files (Ok r) verdict other delimits is other_is =
    is.2 ∙ ap (in_stage refusal.Job) (one_planned r files (plan_for r files) is.0 other_is.0 delimits is.1 other_is.1) ∙ sym other_is.2

pub one_verdict : (words : List (List ℕ)) (files : List File) (verdict other : Result (List File) Refusal) → ((plan : Project) → IsDelimiter (layout_of plan).delimiter) →
    IsVerdict words files verdict → IsVerdict words files other → verdict ≡ other
one_verdict words files verdict other delimits is other_is = one_of_request files (request words) verdict other delimits is other_is
