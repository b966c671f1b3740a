-- What a mode comes to that asks nothing of the library.
use Rattle.std.proofs.Common.{◌≡◌, ◌≢◌, ℕ, Bool, List, [], Option, None, Some, Result, Ok, Err, inl, inr, refl, sym, subst, arith}
use Rattle.std.specs.Prelude.{◌⊎◌, IfErr, IfSome}
use Rattle.dictionaries.specs.WordList.{WordList}
use Rattle.pd_outside.specs.Faults.{Counts}
use Rattle.pd_outside.specs.Files.{File}
use Rattle.pd_outside.specs.Library.{AskedPrefixOf, Content}
use Rattle.plan_stages.specs.Stages.{Decides, IsReadOut, ended, told_files}
use Rattle.plan_stages.proofs.DictionaryLemmas.{none_asked}
use Rattle.refusals.specs.Statuses.{job_status}
use Rattle.refusals.specs.declared.refusal.JobFault.{JobFault}
use Rattle.request_words.specs.declared.usage.Mode.TheVariants.{Check, Snapshot, Unit, Row, Apply, Details, DetailsUnit, DetailsApply, Revert}
use Rattle.request_words.specs.declared.usage.Mode.{Mode}
use Rattle.request_words.specs.declared.usage.Request.{Request}
use Rattle.schema_facts.specs.Dictionaries.{Project}
use Rattle.run_jobs.specs.Jobs.{due_of}
use Rattle.pdgf_run.specs.ReadingList.{AsksInMode, names_in_mode, possible_in_mode}
use Rattle.run_jobs.specs.Outcome.{IsLimitTold, LibraryLeft, IsDecided}
use Rattle.pdgf_run.specs.Verdict.{IsInMode}
use Rattle.replay_files.specs.modes.Apply.{paths_asked, paths_possible}
use Rattle.pdgf_run.specs.modes.Check.{check_due}
use Rattle.run_jobs.specs.Details.{declaration_names, possible_declaration, AsksForDetails}
use Rattle.run_jobs.specs.modes.Details.{details_due}
use Rattle.replay_files.specs.modes.DetailsApply.{details_apply_asked, details_apply_possible}
use Rattle.replay_files.specs.modes.Revert.{undo_paths_asked, undo_paths_possible}
use Rattle.pdgf_run.specs.modes.Row.{row_due}
use Rattle.table_jobs.specs.modes.Snapshot.{IsSnapshotDue}
use Rattle.table_jobs.specs.modes.Unit.{IsUnitDue}
use Rattle.run_jobs.specs.declared.job.Job.{Job}
use Rattle.run_jobs.specs.declared.job.Told.TheVariants.{Changes, Text}
use Rattle.replay_files.proofs.ReplayLemmas.{left_alone}

-- ---- what it answers

decided_due : (due : Result (List File) JobFault) (made : Result Job JobFault) → Decides job_status due_of made due → IsDecided job_status due_of (λ answer. answer ≡ due) made
decided_due due (Ok job) decided = sym decided
decided_due due (Err fault) decided = λ free. sym (decided free)

where_told : (told : Option (List File)) (P : List File → Type 0) → ((files : List File) → P files) → IfSome told P
where_told None P all = tt
where_told (Some files) P all = all files

in_mode : (told : Option (List File)) (mode : Mode) (r : Request) (plan : Project) (made : Result Job JobFault) → r.mode ≡ mode →
    ((files : List File) → IsDecided job_status due_of (IsInMode mode r plan files) made) →
    IfSome told (λ files. IsDecided job_status due_of (IsInMode r.mode r plan files) made)
in_mode told mode r plan made is decided =
    subst (λ (m : Mode). IfSome told (λ files. IsDecided job_status due_of (IsInMode m r plan files) made)) (sym is)
    (where_told told (λ files. IsDecided job_status due_of (IsInMode mode r plan files) made) decided)

pub check_decided : (told : Option (List File)) (r : Request) (plan : Project) (made : Result Job JobFault) → r.mode ≡ Check → Decides job_status due_of made (check_due plan) →
    IfSome told (λ files. IsDecided job_status due_of (IsInMode r.mode r plan files) made)
check_decided told r plan made is decided = in_mode told Check r plan made is (λ files. decided_due (check_due plan) made decided)

pub snapshot_decided : (told : Option (List File)) (r : Request) (plan : Project) (made : Result Job JobFault) → r.mode ≡ Snapshot → IsDecided job_status due_of (IsSnapshotDue r plan) made →
    IfSome told (λ files. IsDecided job_status due_of (IsInMode r.mode r plan files) made)
snapshot_decided told r plan made is decided = in_mode told Snapshot r plan made is (λ files. decided)

pub unit_decided : (told : Option (List File)) (r : Request) (plan : Project) (made : Result Job JobFault) → r.mode ≡ Unit → IsDecided job_status due_of (IsUnitDue r plan) made →
    IfSome told (λ files. IsDecided job_status due_of (IsInMode r.mode r plan files) made)
unit_decided told r plan made is decided = in_mode told Unit r plan made is (λ files. decided)

pub row_decided : (told : Option (List File)) (r : Request) (plan : Project) (made : Result Job JobFault) → r.mode ≡ Row → Decides job_status due_of made (row_due r plan) →
    IfSome told (λ files. IsDecided job_status due_of (IsInMode r.mode r plan files) made)
row_decided told r plan made is decided = in_mode told Row r plan made is (λ files. decided_due (row_due r plan) made decided)

-- ---- its status

-- it answers a job, want of memory, or what is out of range
status_is : (answer : Result Job JobFault) → IfErr answer (λ fault. (job_status fault ≡ 7) ⊎ (job_status fault ≡ 8)) →
    (ended job_status answer ≡ 0) ⊎ ((ended job_status answer ≡ 7) ⊎ (ended job_status answer ≡ 8))
status_is (Ok job) refused = inl refl
status_is (Err fault) refused = inr refused

pub status_others : (answer : Result Job JobFault) → IfErr answer (λ fault. (job_status fault ≡ 7) ⊎ (job_status fault ≡ 8)) →
    (ended job_status answer ≢ 2) × (ended job_status answer ≢ 3) × (ended job_status answer ≢ 5) × (ended job_status answer ≢ 10)
status_others answer refused = go (ended job_status answer) (status_is answer refused)
  where
    go : (status : ℕ) → (status ≡ 0) ⊎ ((status ≡ 7) ⊎ (status ≡ 8)) → (status ≢ 2) × (status ≢ 3) × (status ≢ 5) × (status ≢ 10)
    go status (inl zero) = (λ e. absurd (omega (arith, zero, e)), λ e. absurd (omega (arith, zero, e)), λ e. absurd (omega (arith, zero, e)), λ e. absurd (omega (arith, zero, e)))
    go status (inr (inl seven)) =
        (λ e. absurd (omega (arith, seven, e)), λ e. absurd (omega (arith, seven, e)), λ e. absurd (omega (arith, seven, e)), λ e. absurd (omega (arith, seven, e)))
    go status (inr (inr eight)) =
        (λ e. absurd (omega (arith, eight, e)), λ e. absurd (omega (arith, eight, e)), λ e. absurd (omega (arith, eight, e)), λ e. absurd (omega (arith, eight, e)))

-- ---- what it leaves of the library, and asks

pub left_untouched : (answer : Result Job JobFault) (content : Option Content) (taken : ℕ) (is_started : Bool) (counts : Counts) →
    IfErr answer (λ fault. (job_status fault ≡ 7) ⊎ (job_status fault ≡ 8)) → IsReadOut content →
    LibraryLeft (ended job_status answer) (IsLimitTold answer) (told_files content) content taken is_started counts counts
left_untouched answer content taken is_started counts refused out =
    let others = status_others answer refused in
    left_alone (ended job_status answer) (IsLimitTold answer) content taken is_started counts others.2 others.3 out

pub asks_nothing : (r : Request) (plan : Project) (told : Option (List File)) (before : Option (List (List ℕ))) → AsksInMode r plan told before before
asks_nothing r plan None before = record { told = tt; details = []; lists = []; untold = record { count = 0; asked = none_asked before } }
asks_nothing r plan (Some files) before = record { told = record { count = 0; asked = none_asked before }; details = []; lists = []; untold = record { count = 0; asked = none_asked before } }

-- ---- mode apply

pub apply_decided : (told : Option (List File)) (r : Request) (plan : Project) (made : Result Job JobFault) → r.mode ≡ Apply →
    IfSome told (λ files. IsDecided job_status due_of (IsInMode Apply r plan files) made) →
    IfSome told (λ files. IsDecided job_status due_of (IsInMode r.mode r plan files) made)
apply_decided told r plan made is decided =
    subst (λ (m : Mode). IfSome told (λ files. IsDecided job_status due_of (IsInMode m r plan files) made)) (sym is) decided

pub apply_asks : (r : Request) (plan : Project) (told : Option (List File)) (before now : Option (List (List ℕ))) → r.mode ≡ Apply →
    IfSome told (λ files. AskedPrefixOf (paths_asked plan r files) before now) →
    AskedPrefixOf (paths_possible plan r) before now → AsksInMode r plan told before now
apply_asks r plan told before now is first possible = record {
  told = subst (λ (m : Mode). IfSome told (λ (f : List File). AskedPrefixOf (names_in_mode m r plan f) before now)) (sym is) first;
  details = [];
  lists = [];
  untold = subst (λ (m : Mode). AskedPrefixOf (possible_in_mode m r plan [] []) before now) (sym is) possible;
}

-- ---- mode details-apply

pub details_apply_decided : (told : Option (List File)) (r : Request) (plan : Project) (made : Result Job JobFault) → r.mode ≡ DetailsApply →
    IfSome told (λ files. IsDecided job_status due_of (IsInMode DetailsApply r plan files) made) →
    IfSome told (λ files. IsDecided job_status due_of (IsInMode r.mode r plan files) made)
details_apply_decided told r plan made is decided =
    subst (λ (m : Mode). IfSome told (λ files. IsDecided job_status due_of (IsInMode m r plan files) made)) (sym is) decided

pub details_apply_asks : (r : Request) (plan : Project) (told : Option (List File)) (before now : Option (List (List ℕ))) → r.mode ≡ DetailsApply →
    IfSome told (λ files. AskedPrefixOf (details_apply_asked plan r files) before now) →
    (details : List ℕ) × (lists : List WordList) × AskedPrefixOf (details_apply_possible plan r details lists) before now → AsksInMode r plan told before now
details_apply_asks r plan told before now is first possible = record {
  told = subst (λ (m : Mode). IfSome told (λ (f : List File). AskedPrefixOf (names_in_mode m r plan f) before now)) (sym is) first;
  details = possible.0;
  lists = possible.1;
  untold = subst (λ (m : Mode). AskedPrefixOf (possible_in_mode m r plan possible.0 possible.1) before now) (sym is) possible.2;
}

-- ---- mode revert

pub revert_decided : (told : Option (List File)) (r : Request) (plan : Project) (made : Result Job JobFault) → r.mode ≡ Revert →
    IfSome told (λ files. IsDecided job_status due_of (IsInMode Revert r plan files) made) →
    IfSome told (λ files. IsDecided job_status due_of (IsInMode r.mode r plan files) made)
revert_decided told r plan made is decided =
    subst (λ (m : Mode). IfSome told (λ files. IsDecided job_status due_of (IsInMode m r plan files) made)) (sym is) decided

pub revert_asks : (r : Request) (plan : Project) (told : Option (List File)) (before now : Option (List (List ℕ))) → r.mode ≡ Revert →
    IfSome told (λ files. AskedPrefixOf (undo_paths_asked plan r files) before now) →
    AskedPrefixOf (undo_paths_possible plan r) before now → AsksInMode r plan told before now
revert_asks r plan told before now is first possible = record {
  told = subst (λ (m : Mode). IfSome told (λ (f : List File). AskedPrefixOf (names_in_mode m r plan f) before now)) (sym is) first;
  details = [];
  lists = [];
  untold = subst (λ (m : Mode). AskedPrefixOf (possible_in_mode m r plan [] []) before now) (sym is) possible;
}

-- ---- modes details and details-unit

pub details_decided : (told : Option (List File)) (r : Request) (plan : Project) (made : Result Job JobFault) → r.mode ≡ Details →
    IfSome told (λ files. IsDecided job_status due_of (λ answer. answer ≡ details_due Text plan r files) made) →
    IfSome told (λ files. IsDecided job_status due_of (IsInMode r.mode r plan files) made)
details_decided told r plan made is decided =
    subst (λ (m : Mode). IfSome told (λ files. IsDecided job_status due_of (IsInMode m r plan files) made)) (sym is) decided

pub details_unit_decided : (told : Option (List File)) (r : Request) (plan : Project) (made : Result Job JobFault) → r.mode ≡ DetailsUnit →
    IfSome told (λ files. IsDecided job_status due_of (λ answer. answer ≡ details_due Changes plan r files) made) →
    IfSome told (λ files. IsDecided job_status due_of (IsInMode r.mode r plan files) made)
details_unit_decided told r plan made is decided =
    subst (λ (m : Mode). IfSome told (λ files. IsDecided job_status due_of (IsInMode m r plan files) made)) (sym is) decided

-- the declaration's name is asked, and its word lists'
asks_declaration : (mode : Mode) (r : Request) (plan : Project) (told : Option (List File)) (before now : Option (List (List ℕ))) → r.mode ≡ mode →
    ((files : List File) → names_in_mode mode r plan files ≡ declaration_names plan files r.spec) →
    ((details : List ℕ) → possible_in_mode mode r plan details [] ≡ possible_declaration plan details r.spec) → AsksForDetails plan r.spec told before now → AsksInMode r plan told before now
asks_declaration mode r plan told before now is names possible asks = record {
  told = subst (λ (m : Mode). IfSome told (λ f. AskedPrefixOf (names_in_mode m r plan f) before now)) (sym is) (named told asks.told);
  details = asks.bytes;
  lists = [];
  untold =
      subst (λ (m : Mode). AskedPrefixOf (possible_in_mode m r plan asks.bytes []) before now) (sym is)
      (subst (λ (list : List (List ℕ)). AskedPrefixOf list before now) (sym (possible asks.bytes)) asks.untold);
}
  where
    named : (t : Option (List File)) → IfSome t (λ f. AskedPrefixOf (declaration_names plan f r.spec) before now) → IfSome t (λ f. AskedPrefixOf (names_in_mode mode r plan f) before now)
    named None asked = tt
    named (Some f) asked = subst (λ (list : List (List ℕ)). AskedPrefixOf list before now) (sym (names f)) asked

pub details_asks : (r : Request) (plan : Project) (told : Option (List File)) (before now : Option (List (List ℕ))) → r.mode ≡ Details → AsksForDetails plan r.spec told before now →
    AsksInMode r plan told before now
details_asks r plan told before now is asks = asks_declaration Details r plan told before now is (λ f. refl) (λ details. refl) asks

pub details_unit_asks : (r : Request) (plan : Project) (told : Option (List File)) (before now : Option (List (List ℕ))) → r.mode ≡ DetailsUnit → AsksForDetails plan r.spec told before now →
    AsksInMode r plan told before now
details_unit_asks r plan told before now is asks = asks_declaration DetailsUnit r plan told before now is (λ f. refl) (λ details. refl) asks
