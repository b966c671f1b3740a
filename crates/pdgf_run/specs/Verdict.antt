-- What words and files come to: the due files, or a refusal.
use Rattle.std.specs.Prelude.{◌≡◌, ℕ, List, [], Option, Result, Ok, Err, IfSome, Bool, true, false}
use Rattle.pd_outside.specs.Files.{File}
use Rattle.pd_outside.specs.Library.{Content}
use Rattle.plan_stages.specs.Plans.{plan_in}
use Rattle.plan_stages.specs.Stages.{in_stage, told_files}
use Rattle.refusals.specs.declared.refusal.JobFault.{JobFault}
use Rattle.refusals.specs.declared.refusal.JobFault.TheVariants as job
use Rattle.refusals.specs.declared.refusal.PlanFault.{PlanFault}
use Rattle.refusals.specs.declared.refusal.Refusal.{Refusal}
use Rattle.refusals.specs.declared.refusal.Refusal.TheVariants as refusal
use Rattle.request_words.specs.Words.{request}
use Rattle.request_words.specs.declared.usage.Mode.TheVariants.{Check, Snapshot, Unit, Row, Apply, Sample, Play, Details, DetailsUnit, DetailsApply, Undo, Revert}
use Rattle.request_words.specs.declared.usage.Mode.{Mode}
use Rattle.request_words.specs.declared.usage.Request.{Request}
use Rattle.request_words.specs.declared.usage.UsageFault.{UsageFault}
use Rattle.sample_tables.specs.Schema.{sample_project}
use Rattle.schema_facts.specs.Dictionaries.{Project}
use Rattle.pdgf_run.specs.ReadingList.{reads_schema}
use Rattle.replay_files.specs.modes.Apply.{IsApplyDue}
use Rattle.pdgf_run.specs.modes.Check.{check_due}
use Rattle.run_jobs.specs.declared.job.Told.TheVariants.{Changes, Text}
use Rattle.run_jobs.specs.modes.Details.{details_due}
use Rattle.replay_files.specs.modes.DetailsApply.{IsDetailsApplyDue}
use Rattle.fill_jobs.specs.modes.Play.{play_due}
use Rattle.replay_files.specs.modes.Revert.{IsRevertDue}
use Rattle.pdgf_run.specs.modes.Row.{row_due}
use Rattle.table_jobs.specs.modes.Sample.{IsSampleOf}
use Rattle.table_jobs.specs.modes.Snapshot.{IsSnapshotDue}
use Rattle.run_jobs.specs.modes.Undo.{undo_due}
use Rattle.table_jobs.specs.modes.Unit.{IsUnitDue}

-- what a request over a plan and files comes to, by its mode
abbrev pub IsInMode : Mode → Request → Project → List File → Result (List File) JobFault → Type 0
IsInMode Check request plan files answer = answer ≡ check_due plan
IsInMode Snapshot request plan files answer = IsSnapshotDue request plan answer
IsInMode Unit request plan files answer = IsUnitDue request plan answer
IsInMode Row request plan files answer = answer ≡ row_due request plan
IsInMode Apply request plan files answer = IsApplyDue plan request files answer
IsInMode Sample request plan files answer = IsSampleOf plan request answer
IsInMode Play request plan files answer = answer ≡ play_due request plan
IsInMode Details request plan files answer = answer ≡ details_due Text plan request files
IsInMode DetailsUnit request plan files answer = answer ≡ details_due Changes plan request files
IsInMode DetailsApply request plan files answer = IsDetailsApplyDue plan request files answer
IsInMode Undo request plan files answer = answer ≡ undo_due request plan
IsInMode Revert request plan files answer = IsRevertDue plan request files answer

-- the plan that a request is carried out over: of the schema that it names, or in mode sample of a schema of its own
abbrev pub plan_by : Bool → Request → List File → Result Project PlanFault
plan_by true request files = plan_in files request.schema
plan_by false request files = Ok (sample_project request.size)

abbrev pub plan_for : Request → List File → Result Project PlanFault
plan_for request files = plan_by (reads_schema request.mode) request files

-- what a request over files comes to: first there is a plan
abbrev pub IsPlanned : Request → List File → Result Project PlanFault → Result (List File) JobFault → Type 0
IsPlanned request files (Err fault) answer = answer ≡ Err (job.Plan fault)
IsPlanned request files (Ok plan) answer = IsInMode request.mode request plan files answer

abbrev pub IsJobOver : Request → List File → Result (List File) JobFault → Type 0
IsJobOver request files answer = IsPlanned request files (plan_for request files) answer

-- the same, where words give a request
abbrev pub IsOfRequest : List File → Result Request UsageFault → Result (List File) Refusal → Type 0
IsOfRequest files (Err fault) verdict = verdict ≡ Err (refusal.Words fault)
IsOfRequest files (Ok request) verdict = (answer : Result (List File) JobFault) × IsJobOver request files answer × (verdict ≡ in_stage refusal.Job answer)

-- the due files of words over files, or why there are none
abbrev pub IsVerdict : List (List ℕ) → List File → Result (List File) Refusal → Type 0
IsVerdict words files verdict = IsOfRequest files (request words) verdict

-- a fact of the verdict, where the library tells its files
abbrev pub WhereTold : List (List ℕ) → Option Content → (Result (List File) Refusal → Type 0) → Type 0
WhereTold words content Fact =
    IfSome (told_files content) (λ (files : List File). (verdict : Result (List File) Refusal) × IsVerdict words files verdict × Fact verdict)

-- a fact of the verdict of words that read no file, which no file changes
abbrev pub WhereUnread : List (List ℕ) → (Result (List File) Refusal → Type 0) → Type 0
WhereUnread words Fact = (verdict : Result (List File) Refusal) × IsVerdict words [] verdict × Fact verdict
