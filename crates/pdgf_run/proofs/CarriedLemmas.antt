-- Facts of the due files that hold where the verdict is carried out.
use Rattle.std.proofs.Common.{◌≡◌, ◌≢◌, ℕ, Bool, true, false, List, [], Option, None, Some, Result, Ok, Err, inl, inr, ap, refl, subst, sym, ◌∙◌}
use Rattle.std.specs.Prelude.{IfOk, IfSome}
use Rattle.std.proofs.lemmas.Bool.{cases_eq, ne_eqb}
use Rattle.pd_outside.specs.Files.{File}
use Rattle.pd_outside.specs.Shelf.{Held}
use Rattle.plan_stages.specs.Plans.{plan_in}
use Rattle.refusals.specs.Messages.{message_of}
use Rattle.refusals.specs.Statuses.{is_free, status_of}
use Rattle.refusals.specs.declared.refusal.JobFault.{JobFault}
use Rattle.refusals.specs.declared.refusal.PlanFault.{PlanFault}
use Rattle.refusals.specs.declared.refusal.Refusal.{Refusal}
use Rattle.request_words.specs.Words.{request}
use Rattle.request_words.specs.declared.usage.Mode.TheVariants.{Play}
use Rattle.request_words.specs.declared.usage.Mode.{Mode}
use Rattle.request_words.specs.declared.usage.Request.{Request}
use Rattle.request_words.specs.declared.usage.UsageFault.{UsageFault}
use Rattle.row_text.specs.Fields.{IsDelimiter}
use Rattle.schema_facts.specs.Dictionaries.{Project}
use Rattle.schema_facts.specs.Layout.{layout_of}
use Rattle.schema_plan.specs.Limits.{IsInLimits}
use Rattle.run_jobs.specs.Jobs.{due_of}
use Rattle.fill_jobs.specs.Playing.{IsTaskOf, is_playing, task_due}
use Rattle.pdgf_run.specs.ReadingList.{reads_schema}
use Rattle.pdgf_run.specs.TopCall.{Carries}
use Rattle.run_jobs.specs.Outcome.{IsDecided}
use Rattle.pdgf_run.specs.Verdict.{IsInMode, IsJobOver, IsPlanned, IsVerdict, WhereUnread, plan_by}
use Rattle.run_jobs.specs.declared.job.Task.{Task}
use Rattle.pdgf_run.specs.declared.report.Report.{Report}
use Rattle.pdgf_run.proofs.TaskLemmas.{plays_no_other}
use Rattle.pdgf_run.proofs.DecideLemmas.{of_words}
use Rattle.pdgf_run.proofs.OutcomeLemmas.{one_verdict}

-- the due files of a request over its plan are the verdict's, and so carried out
pub due_carried : ((plan : Project) → IsDelimiter (layout_of plan).delimiter) → (words : List (List ℕ)) (files : List File) (r : Request) (plan : Project) (due : List File)
    (verdict : Result (List File) Refusal) (report : Report) (before now : Option Held) → request words ≡ Ok r → reads_schema r.mode ≡ true → plan_in files r.schema ≡ Ok plan →
    IsInMode r.mode r plan files (Ok due) → IsVerdict words files verdict → Carries verdict report before now → Carries (Ok due) report before now
due_carried delimits words files r plan due verdict report before now given reads planned in_mode is carries =
    let answer : Result (List File) JobFault = Ok due in
    let over : IsJobOver r files answer =
    subst (λ (b : Bool). IsPlanned r files (plan_by b r files) answer) (sym reads)
    (subst (λ (made : Result Project PlanFault). IsPlanned r files made answer) (sym planned) in_mode) in
    let later : IsVerdict words files (Ok due) = of_words words files (Ok r) (Ok due) given (answer, over, refl) in
    subst (λ (v : Result (List File) Refusal). Carries v report before now) (one_verdict words files verdict (Ok due) delimits is later) carries

-- what a request of a mode gives
abbrev pub Fact : Type 1
Fact = Request → List File → Report → Option Held → Option Held → Type 0

-- it gives this where the verdict is carried out
abbrev pub Gives : Mode → Fact → Type 0
Gives mode Given =
    (words : List (List ℕ)) (files : List File) (r : Request) (verdict : Result (List File) Refusal) (report : Report) (before now : Option Held) →
    request words ≡ Ok r → r.mode ≡ mode → IfOk (plan_in files r.schema) IsInLimits → IsVerdict words files verdict → Carries verdict report before now →
    Given r files report before now

-- a plan that a request reads is in its limits
abbrev pub AreLimited : ℕ → Option (List File) → Result Request UsageFault → Type 0
AreLimited status told q =
    IfOk q (λ asked. reads_schema asked.mode ≡ true → is_free status ≡ false → IfSome told (λ files. IfOk (plan_in files asked.schema) IsInLimits))

abbrev pub GivesAsked : Mode → Fact → Option (List File) → Result Request UsageFault → Report → Option Held → Option Held → Type 0
GivesAsked mode Given told q report before now = IfOk q (λ asked. asked.mode ≡ mode → IfSome told (λ files. Given asked files report before now))

-- ---- a request that is refused

abbrev pub Refuses : Mode → Fact → Type 0
Refuses mode Given =
    (words : List (List ℕ)) (told : Option (List File)) (q : Result Request UsageFault) (r : Refusal) (report : Report) (before now : Option Held) → request words ≡ q →
    AreLimited (status_of r) told q → IfSome told (λ files. IsDecided status_of due_of (IsVerdict words files) (Err r)) →
    report ≡ record { status = status_of r; message = message_of r } → now ≡ before → report.status ≢ 5 → report.status ≢ 7 → GivesAsked mode Given told q report before now

not_free : (status : ℕ) → status ≢ 5 → status ≢ 7 → is_free status ≡ false
not_free status five seven = elim (cases_eq status 5) [
  | inl same ↦ absurd (five same)
  | inr other ↦ elim (cases_eq status 7) [
    | inl same ↦ absurd (seven same)
    | inr another ↦ rw (ne_eqb status 5 other, ne_eqb status 7 another) refl
  ]
]

pub refused_gives : (mode : Mode) → reads_schema mode ≡ true → (Given : Fact) → Gives mode Given → Refuses mode Given
refused_gives mode reads Given gives words told (Err fault) r report before now given limits decided is same five seven = tt
refused_gives mode reads Given gives words None (Ok asked) r report before now given limits decided is same five seven = λ own. tt
refused_gives mode reads Given gives words (Some files) (Ok asked) r report before now given limits decided is same five seven = λ own.
    let status : report.status ≡ status_of r = ap (λ (t : Report). t.status) is in
    let free : is_free (status_of r) ≡ false = subst (λ (s : ℕ). is_free s ≡ false) status (not_free report.status five seven) in
    gives words files asked (Err r) report before now given own (limits (ap reads_schema own ∙ reads) free) (decided free) (is, same)

-- what reads no file is refused whatever is told
pub refused_unread : (words : List (List ℕ)) (r : Refusal) (report : Report) (before now : Option Held) → IsDecided status_of due_of (IsVerdict words []) (Err r) →
    report ≡ record { status = status_of r; message = message_of r } → now ≡ before → report.status ≢ 5 → report.status ≢ 7 →
    WhereUnread words (λ verdict. Carries verdict report before now)
refused_unread words r report before now decided is same five seven =
    let status : report.status ≡ status_of r = ap (λ (t : Report). t.status) is in
    let free : is_free (status_of r) ≡ false = subst (λ (s : ℕ). is_free s ≡ false) status (not_free report.status five seven) in
    (Err r, decided free, (is, same))

-- ---- a request that is carried out

abbrev pub Carried : Mode → Fact → Type 0
Carried mode Given =
    (words : List (List ℕ)) (told : Option (List File)) (q : Result Request UsageFault) (t : Task) (report : Report) (before now : Option Held) → request words ≡ q →
    AreLimited 0 told q → IfSome told (λ files. IsVerdict words files (Ok (task_due t))) → IfOk q (λ asked. IsTaskOf asked told t) → (is_playing t ≡ false → report.status ≢ 12) →
    (report.status ≢ 6 → report.status ≢ 7 → report.status ≢ 12 → Carries (Ok (task_due t)) report before now) → report.status ≢ 6 → report.status ≢ 7 →
    GivesAsked mode Given told q report before now

pub carried_gives : (mode : Mode) → reads_schema mode ≡ true → (mode ≡ Play → ⊥) → (Given : Fact) → Gives mode Given → Carried mode Given
carried_gives mode reads apart Given gives words told (Err fault) t report before now given limits decided of unfailed carries six seven = tt
carried_gives mode reads apart Given gives words None (Ok asked) t report before now given limits decided of unfailed carries six seven = λ own. tt
carried_gives mode reads apart Given gives words (Some files) (Ok asked) t report before now given limits decided of unfailed carries six seven = λ own.
    let made = carries six seven (unfailed (plays_no_other asked (Some files) t of (λ plays. apart (sym own ∙ plays)))) in
    gives words files asked (Ok (task_due t)) report before now given own (limits (ap reads_schema own ∙ reads) refl) decided made
