-- Mode details-apply as it reads its declaration: what comes of it, what is asked, and what is left of the library.
use Rattle.std.proofs.Common.{◌≡◌, ◌≤◌, ℕ, List, [], ◌++◌, Option, None, Some, Result, Ok, Err, refl, ap, sym, subst, ◌∙◌, arith}
use Rattle.std.specs.Prelude.{Bool, IfSome}
use Rattle.dictionaries.specs.WordList.{WordList}
use Rattle.pd_outside.specs.Faults.{Counts}
use Rattle.pd_outside.specs.Files.{File}
use Rattle.pd_outside.specs.Library.{AskedPrefixOf, Content}
use Rattle.plan_stages.specs.PlanNames.{AskedNone}
use Rattle.plan_stages.specs.Stages.{Decides, LibraryAfter}
use Rattle.plan_stages.proofs.DictionaryLemmas.{IfSome-same}
use Rattle.refusals.specs.Statuses.{details_status, job_status}
use Rattle.refusals.specs.declared.refusal.DetailsCause.{DetailsCause}
use Rattle.refusals.specs.declared.refusal.JobFault.{JobFault}
use Rattle.refusals.specs.declared.refusal.JobFault.TheVariants as job
use Rattle.request_words.specs.declared.usage.Request.{Request}
use Rattle.schema_facts.specs.Dictionaries.{Project}
use Rattle.detail_plan.specs.Kept.{Kept}
use Rattle.run_jobs.specs.Details.{declaration_names, detail_in, detail_with_words, limit_at, possible_declaration, AsksForDetails, DetailsRead}
use Rattle.run_jobs.specs.Jobs.{due_of}
use Rattle.run_jobs.specs.Outcome.{IsLimitOf, LibraryLeft, IsDecided}
use Rattle.run_jobs.specs.declared.job.Job.{Job}
use Rattle.replay_files.specs.modes.DetailsApply.{AreDeclared, AreDetailsOf, IsDetailsApplyDue, behind_declared, detail_paths_asked, detail_paths_possible, details_apply_asked, details_apply_possible}
use Rattle.run_jobs.proofs.AskedNameLemmas.{asked_then, first_of_more}
use Rattle.run_jobs.proofs.DetailsLemmas.{unasked_then}

-- ---- after the declaration

of_declared : (plan : Project) (r : Request) (files : List File) (declared : Result Kept DetailsCause) (answer : Result (List File) JobFault) → detail_in plan files r.spec ≡ declared →
    AreDeclared plan r files declared answer → IsDetailsApplyDue plan r files answer
of_declared plan r files declared answer is made = subst (λ (d : Result Kept DetailsCause). AreDeclared plan r files d answer) (sym is) made

-- a file declares none
pub undeclared_decided : (told : Option (List File)) (plan : Project) (r : Request) (name : List ℕ) (cause : DetailsCause) → name ≡ r.spec →
    IfSome told (λ files. Decides details_status (λ kept. kept) (Err cause) (detail_in plan files name)) →
    IfSome told (λ files. IsDecided job_status due_of (IsDetailsApplyDue plan r files) (Err (job.Details cause)))
undeclared_decided None plan r name cause is decided = tt
undeclared_decided (Some files) plan r name cause is decided = λ free.
    of_declared plan r files (Err cause) (Err (job.Details cause)) (ap (detail_in plan files) (sym is) ∙ decided free) refl

of_answer : (plan : Project) (r : Request) (files : List File) (kept : Kept) (answer : Result Job JobFault) → detail_in plan files r.spec ≡ Ok kept →
    IsDecided job_status due_of (AreDetailsOf plan r files kept.detail) answer → IsDecided job_status due_of (IsDetailsApplyDue plan r files) answer
of_answer plan r files kept (Ok job) is made = of_declared plan r files (Ok kept) (Ok (due_of job)) is made
of_answer plan r files kept (Err fault) is made = λ free. of_declared plan r files (Ok kept) (Err fault) is (made free)

-- and one declares this
pub declared_decided : (told mid : Option (List File)) (plan : Project) (r : Request) (name : List ℕ) (kept : Kept) (answer : Result Job JobFault) → name ≡ r.spec →
    IfSome told (λ files. Decides details_status (λ kept. kept) (Ok kept) (detail_in plan files name)) → mid ≡ told →
    IfSome mid (λ files. IsDecided job_status due_of (AreDetailsOf plan r files kept.detail) answer) →
    IfSome told (λ files. IsDecided job_status due_of (IsDetailsApplyDue plan r files) answer)
declared_decided None mid plan r name kept answer is declared same decided = tt
declared_decided (Some files) mid plan r name kept answer is declared same decided =
    of_answer plan r files kept answer (ap (detail_in plan files) (sym is) ∙ declared)
    (IfSome-same (λ (f : List File). IsDecided job_status due_of (AreDetailsOf plan r f kept.detail) answer) mid (Some files) same decided)

-- what is left of the library where it isn't declared
pub left_undeclared : (cause : DetailsCause) (before : Option (List File)) (now : Option Content) (taken : ℕ) (is_started : Bool) (counts_before counts_now : Counts) →
    LibraryAfter (details_status cause) (limit_at cause) before now taken is_started counts_before counts_now →
    LibraryLeft (details_status cause) (IsLimitOf (job.Details cause)) before now taken is_started counts_before counts_now
left_undeclared cause before now taken is_started counts_before counts_now after = record {
  files = after.files;
  read_out = λ yes. after.read_out;
  too_long = λ ten. (limit_at cause, refl, after.too_long ten);
  failed = after.failed;
  stopped = after.stopped;
  unfailed = after.unfailed;
}

-- the declaration's name and its word lists' were asked, as far as they are read
first_told : (told : Option (List File)) (first more : List File → List (List ℕ)) (before now : Option (List (List ℕ))) → IfSome told (λ files. AskedPrefixOf (first files) before now) →
    IfSome told (λ files. AskedPrefixOf (first files ++ more files) before now)
first_told None first more before now asked = tt
first_told (Some files) first more before now asked = first_of_more (first files) (more files) before now asked

pub undeclared_asked_told : (told : Option (List File)) (plan : Project) (r : Request) (name : List ℕ) (before now : Option (List (List ℕ))) → name ≡ r.spec →
    AsksForDetails plan name told before now → IfSome told (λ files. AskedPrefixOf (details_apply_asked plan r files) before now)
undeclared_asked_told told plan r name before now is asks =
    first_told told (λ files. declaration_names plan files r.spec) (λ files. behind_declared (detail_paths_asked plan r files) (detail_in plan files r.spec)) before now
    (subst (λ (n : List ℕ). IfSome told (λ files. AskedPrefixOf (declaration_names plan files n) before now)) is asks.told)

pub undeclared_asked : (plan : Project) (r : Request) (name : List ℕ) (told : Option (List File)) (before now : Option (List (List ℕ))) → name ≡ r.spec → AsksForDetails plan name told before now →
    (details : List ℕ) × (lists : List WordList) × AskedPrefixOf (details_apply_possible plan r details lists) before now
undeclared_asked plan r name told before now is asks = (
  asks.bytes,
  [],
  first_of_more (possible_declaration plan asks.bytes r.spec) (behind_declared (detail_paths_possible plan r) (detail_with_words plan asks.bytes [])) before now
      (subst (λ (n : List ℕ). AskedPrefixOf (possible_declaration plan asks.bytes n) before now) is asks.untold),
)

-- and where all of them are, the inputs' after them
pub declared_asked_told : (told mid_told : Option (List File)) (plan : Project) (r : Request) (name : List ℕ) (kept : Kept) (before mid now : Option (List (List ℕ))) → name ≡ r.spec →
    IfSome told (λ files. Decides details_status (λ kept. kept) (Ok kept) (detail_in plan files name)) → mid_told ≡ told → DetailsRead plan kept name told before mid →
    IfSome mid_told (λ files. AskedPrefixOf (detail_paths_asked plan r files kept.detail) mid now) → IfSome told (λ files. AskedPrefixOf (details_apply_asked plan r files) before now)
declared_asked_told None mid_told plan r name kept before mid now is declared same read asked = tt
declared_asked_told (Some files) mid_told plan r name kept before mid now is declared same read asked =
    subst (λ (n : List ℕ). AskedPrefixOf (declaration_names plan files n ++ behind_declared (detail_paths_asked plan r files) (detail_in plan files n)) before now) is
    (subst (λ (d : Result Kept DetailsCause). AskedPrefixOf (declaration_names plan files name ++ behind_declared (detail_paths_asked plan r files) d) before now) (sym declared)
    (subst (λ (first : List (List ℕ)). AskedPrefixOf (first ++ detail_paths_asked plan r files kept.detail) before now) (sym read.told)
    (asked_then (possible_declaration plan read.bytes name) (detail_paths_asked plan r files kept.detail) before mid now read.asked
    (IfSome-same (λ (f : List File). AskedPrefixOf (detail_paths_asked plan r f kept.detail) mid now) mid_told (Some files) same asked))))

pub declared_asked : (plan : Project) (r : Request) (name : List ℕ) (told : Option (List File)) (kept : Kept) (before mid now : Option (List (List ℕ))) → name ≡ r.spec →
    DetailsRead plan kept name told before mid → AskedPrefixOf (detail_paths_possible plan r kept.detail) mid now →
    (details : List ℕ) × (lists : List WordList) × AskedPrefixOf (details_apply_possible plan r details lists) before now
declared_asked plan r name told kept before mid now is read asked = (
  read.bytes,
  read.words,
  subst (λ (n : List ℕ). AskedPrefixOf (possible_declaration plan read.bytes n ++ behind_declared (detail_paths_possible plan r) (detail_with_words plan read.bytes read.words)) before now) is
      (subst (λ (d : Result Kept DetailsCause). AskedPrefixOf (possible_declaration plan read.bytes name ++ behind_declared (detail_paths_possible plan r) d) before now) (sym read.read)
      (asked_then (possible_declaration plan read.bytes name) (detail_paths_possible plan r kept.detail) before mid now read.asked asked)),
)

-- a name was asked
pub declared_unasked : (plan : Project) (r : Request) (name : List ℕ) (told : Option (List File)) (kept : Kept) (taken earlier : ℕ) (before mid now : Option (List (List ℕ))) →
    DetailsRead plan kept name told before mid → AskedPrefixOf (detail_paths_possible plan r kept.detail) mid now → AskedNone before now → taken ≤ earlier
declared_unasked plan r name told kept taken earlier before mid now read asked none =
    unasked_then (possible_declaration plan read.bytes name) (detail_paths_possible plan r kept.detail) taken earlier before mid now (omega arith) read.asked asked none
