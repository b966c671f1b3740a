-- What the top call promises of its report and of the shelf.
use Rattle.std.specs.Prelude.{◌≡◌, ◌≤◌, ◌⊎◌, ℕ, ◌+◌, Bool, false, List, [], IfOk, OnOk, Option, Result, Ok, Err}
use Rattle.std.specs.Option.{option_map}
use Rattle.pd_outside.specs.Files.{File}
use Rattle.pd_outside.specs.Shelf.{Held, finish_files}
use Rattle.plan_stages.specs.Limits.{dictionary_limit, schema_limit}
use Rattle.plan_stages.specs.Plans.{plan_in}
use Rattle.refusals.specs.Messages as text
use Rattle.refusals.specs.Statuses as status
use Rattle.refusals.specs.declared.refusal.Refusal.{Refusal}
use Rattle.refusals.specs.declared.refusal.Refusal.TheVariants as refusal
use Rattle.request_words.specs.declared.usage.Request.{Request}
use Rattle.request_words.specs.declared.usage.UsageFault.{UsageFault}
use Rattle.schema_facts.specs.Dictionaries.{Project}
use Rattle.detail_plan.specs.Kept.{Kept}
use Rattle.pdgf_run.specs.declared.report.Report.{Report}
use Rattle.run_jobs.specs.Details.{detail_in}
use Rattle.pdgf_run.specs.ReadingList.{reads_schema}
use Rattle.run_jobs.specs.InputFiles.{input_limit}
use Rattle.replay_files.specs.modes.Apply.{AreLaterFiles, HoldInputs, tables_asked}
use Rattle.replay_files.specs.modes.DetailsApply.{AreLaterDetails, HoldDetailInputs, detail_asked}
use Rattle.replay_files.specs.modes.Revert.{AreEarlierFiles, HoldUndoInputs, tables_reverted}
use Rattle.run_jobs.specs.Outcome.{IsLimitOf}

-- The report is the verdict's: the due files were finished, in order, and none is begun; or the shelf is as it was.
abbrev pub Carries : Result (List File) Refusal → Report → Option Held → Option Held → Type 0
Carries (Ok due) report before now =
    (report ≡ record { status = status.done_status; message = [] }) × (now ≡ option_map (finish_files due) before)
Carries (Err refusal) report before now =
    (report ≡ record { status = status.status_of refusal; message = text.message_of refusal }) × (now ≡ before)

abbrev pub IsLimitOfRefusal : Refusal → ℕ → Type 0
IsLimitOfRefusal (refusal.Words fault) limit = ⊥
IsLimitOfRefusal (refusal.Job fault) limit = IsLimitOf fault limit

abbrev pub IsLimitRefused : {A : Type 0} → Result A Refusal → ℕ → Type 0
IsLimitRefused (Ok answer) limit = ⊥
IsLimitRefused (Err fault) limit = IsLimitOfRefusal fault limit

-- A file was too long: a byte more than its limit was taken of it, and the message names it.
abbrev pub IsPastLimit : List ℕ → ℕ → Type 0
IsPastLimit message taken =
    ((message ≡ text.schema_too_long_text) × (taken ≡ schema_limit + 1))
    ⊎ (((number : ℕ) × ((message ≡ text.dictionary_too_long_text number) × (taken ≡ dictionary_limit + 1)))
    ⊎ (((name : List ℕ) × (limit : ℕ) × (limit ≤ input_limit) × (message ≡ text.input_too_long_text name) × (taken ≡ limit + 1))
    ⊎ ((message ≡ text.details_too_long_text) × (taken ≡ schema_limit + 1))))

-- whether words ask for a schema that is read
abbrev pub reads_for : Result Request UsageFault → Bool
reads_for (Err fault) = false
reads_for (Ok request) = reads_schema request.mode

-- Where files hold what a plain simulation gives as the inputs of a request, all is done, and what the tables hold at the later unit is
-- finished, in the request's format.
abbrev pub GivesLater : Request → List File → Report → Option Held → Option Held → Type 0
GivesLater request files report before now =
    IfOk (plan_in files request.schema) (λ (plan : Project). IfOk (tables_asked plan request) (λ (table : Option ℕ).
    HoldInputs plan request table files →
    (due : List File) × AreLaterFiles plan request table due × Carries (Ok due) report before now))

-- The same of a detail table, which a file declares.
abbrev pub GivesLaterDetails : Request → List File → Report → Option Held → Option Held → Type 0
GivesLaterDetails request files report before now =
    IfOk (plan_in files request.schema) (λ (plan : Project). IfOk (detail_in plan files request.spec) (λ (kept : Kept).
    OnOk (detail_asked plan request kept.detail) (HoldDetailInputs plan request kept files →
    (due : List File) × AreLaterDetails plan request kept due × Carries (Ok due) report before now)))

-- Where files hold what a plain simulation gives as the texts at a unit and the undo texts back to an earlier one, all is done, and what the tables
-- hold at the earlier unit is finished.
abbrev pub GivesEarlier : Request → List File → Report → Option Held → Option Held → Type 0
GivesEarlier request files report before now =
    IfOk (plan_in files request.schema) (λ (plan : Project). IfOk (tables_reverted plan request) (λ (table : Option ℕ).
    HoldUndoInputs plan request table files →
    (due : List File) × AreEarlierFiles plan request table due × Carries (Ok due) report before now))
