-- What words come to, as it is found.
use Rattle.std.proofs.Common.{◌≡◌, ◌≢◌, ◌≤◌, ◌+◌, ℕ, Bool, false, true, List, [], ◌∷◌, ◌++◌, append-nil, length, length-append, Option, None, Some, Result, Ok, Err, inl, inr, refl, ap, sym, subst, ◌∙◌, arith}
use Rattle.std.specs.Prelude.{◌⊎◌, IfErr, IfOk, IfSome, IsErr, OnOk, if◌then◌else◌, ◌↔◌}
use Rattle.std.specs.Option.{option_map}
use Rattle.dictionaries.specs.WordList.{WordList}
use Rattle.pd_outside.proofs.Counts.{failed_then, unfailed_same, unfailed_then}
use Rattle.pd_outside.specs.Faults.{Counts, Unfailed}
use Rattle.pd_outside.specs.Files.{File}
use Rattle.pd_outside.specs.Library.{AskedPrefixOf, Content, left}
use Rattle.plan_stages.specs.DictionaryFiles.{names_of}
use Rattle.plan_stages.specs.PlanNames.{AskedAlone, AsksForPlan, PlanRead, cited_by, plan_names, possible_names}
use Rattle.plan_stages.specs.Plans.{limit_at, plan_in}
use Rattle.plan_stages.specs.Stages.{ended, in_stage, told_files, Decides, IsReadOut, LibraryAfter}
use Rattle.plan_stages.proofs.DictionaryLemmas.{IfSome-same}
use Rattle.refusals.specs.Statuses.{is_free, job_status, plan_status, status_of}
use Rattle.refusals.specs.declared.refusal.JobFault.{JobFault}
use Rattle.refusals.specs.declared.refusal.JobFault.TheVariants as job
use Rattle.refusals.specs.declared.refusal.PlanFault.{PlanFault}
use Rattle.refusals.specs.declared.refusal.Refusal.{Refusal}
use Rattle.refusals.specs.declared.refusal.Refusal.TheVariants as refusal
use Rattle.request_words.specs.Words.{request}
use Rattle.request_words.specs.declared.usage.Mode.TheVariants.{Check, Snapshot, Unit, Row, Apply, Sample, Play, Details, DetailsUnit, DetailsApply, Undo, Revert}
use Rattle.request_words.specs.declared.usage.Mode.{Mode}
use Rattle.request_words.specs.declared.usage.Request.{Request}
use Rattle.request_words.specs.declared.usage.UsageFault.{UsageFault}
use Rattle.request_words.specs.declared.usage.UsageFault.TheVariants as usage
use Rattle.schema_facts.specs.Dictionaries.{Project, project_of}
use Rattle.schema_plan.specs.Limits.{IsInLimits}
use Rattle.schema_read.specs.Schema.{schema_of}
use Rattle.fill_jobs.specs.Playing.{task_due}
use Rattle.run_jobs.specs.Details.{lists_named}
use Rattle.pdgf_run.specs.ReadingList.{AsksInMode, AsksInTurn, Possible, names_behind, names_in_mode, possible_behind, possible_in_mode, possible_list, project_with_words, reading_list, reads_schema}
use Rattle.run_jobs.specs.Outcome.{IsLimitOf, IsLimitTold, LibraryDone, LibraryLeft, IsDecided}
use Rattle.pdgf_run.specs.TopCall.{IsLimitRefused, reads_for}
use Rattle.pdgf_run.specs.Verdict.{IsInMode, IsJobOver, IsOfRequest, IsPlanned, IsVerdict, plan_by}
use Rattle.run_jobs.specs.declared.job.Task.{Task}
use Rattle.run_jobs.proofs.AskedNameLemmas.{first_of_more, words_read, asked_then}

-- ---- words that give no request

pub of_words : (words : List (List ℕ)) (files : List File) (r : Result Request UsageFault) (verdict : Result (List File) Refusal) → request words ≡ r →
    IsOfRequest files r verdict → IsVerdict words files verdict
of_words words files r verdict is of = subst (λ (q : Result Request UsageFault). IsOfRequest files q verdict) (sym is) of

-- a fault that isn't free isn't want of memory
not_memory : (fault : UsageFault) → is_free (status_of (refusal.Words fault)) ≡ false → fault ≢ usage.Memory
not_memory fault not_free same = let free = ap (λ (f : UsageFault). is_free (status_of (refusal.Words f))) same in cc

-- words that give no request are refused, where memory doesn't run out
pub decided_for_words : (words : List (List ℕ)) (told : Option (List File)) (fault : UsageFault) → (fault ≢ usage.Memory → request words ≡ Err fault) →
    IfSome told (λ files. IsDecided status_of task_due (IsVerdict words files) (Err (refusal.Words fault)))
decided_for_words words None fault given = tt
decided_for_words words (Some files) fault given = λ not_free.
    of_words words files (Err fault) (Err (refusal.Words fault)) (given (not_memory fault not_free)) refl

-- they are refused with status 2, or memory ran out
words_status : (fault : UsageFault) → (status_of (refusal.Words fault) ≡ 2) ⊎ (status_of (refusal.Words fault) ≡ 7)
words_status usage.Memory = inr refl
words_status usage.Words = inl refl
words_status usage.Mode = inl refl
words_status (usage.Unwanted name) = inl refl
words_status (usage.Missing name) = inl refl
words_status (usage.Number name) = inl refl
words_status (usage.EmptyDirectory name) = inl refl
words_status usage.Format = inl refl
words_status usage.Header = inl refl

-- nothing was done to the library
pub untouched : (reads : Bool) (status : ℕ) (IsLimit : ℕ → Type 0) (content : Option Content) (taken : ℕ) (is_started : Bool) (counts : Counts) →
    (reads ≡ true → status ≢ 0) → status ≢ 5 → status ≢ 10 → LibraryDone reads status IsLimit (told_files content) content taken is_started counts counts
untouched reads status IsLimit content taken is_started counts undone read short = record {
  files = refl;
  read_out = λ yes zero. absurd (undone yes zero);
  too_long = λ ten. absurd (short ten);
  failed = λ five. absurd (read five);
  stopped = λ five. absurd (read five);
  unfailed = λ other. unfailed_same counts;
}

pub left_by_words : (reads : Bool) (fault : UsageFault) (IsLimit : ℕ → Type 0) (content : Option Content) (taken : ℕ) (is_started : Bool) (counts : Counts) →
    LibraryDone reads (status_of (refusal.Words fault)) IsLimit (told_files content) content taken is_started counts counts
left_by_words reads fault IsLimit content taken is_started counts =
    let status : ℕ = status_of (refusal.Words fault) in
    let known : (status ≡ 2) ⊎ (status ≡ 7) = words_status fault in
    untouched reads status IsLimit content taken is_started counts (λ yes zero. none 0 known zero (omega arith) (omega arith)) (λ five. none 5 known five (omega arith) (omega arith))
    (λ ten. none 10 known ten (omega arith) (omega arith))
  where
    none : {status : ℕ} (other : ℕ) → (status ≡ 2) ⊎ (status ≡ 7) → status ≡ other → other ≢ 2 → other ≢ 7 → ⊥
    none other (inl two) is not_two not_seven = not_two (sym is ∙ two)
    none other (inr seven) is not_two not_seven = not_seven (sym is ∙ seven)

-- ---- words that give one

-- what is decided of a request is decided of its words
pub decided_for_request : (words : List (List ℕ)) (told : Option (List File)) (r : Request) (made : Result Task JobFault) → request words ≡ Ok r →
    IfSome told (λ files. IsDecided job_status task_due (IsJobOver r files) made) →
    IfSome told (λ files. IsDecided status_of task_due (IsVerdict words files) (in_stage refusal.Job made))
decided_for_request words None r made is decided = tt
decided_for_request words (Some files) r (Ok job) is decided =
    of_words words files (Ok r) (Ok (task_due job)) is (Ok (task_due job), decided, refl)
decided_for_request words (Some files) r (Err fault) is decided = λ not_free.
    of_words words files (Ok r) (Err (refusal.Job fault)) is (Err fault, decided not_free, refl)

in_job : (reads : Bool) (made : Result Task JobFault) (before : Option (List File)) (now : Option Content) (taken : ℕ) (is_started : Bool) (counts_before counts_now : Counts) →
    LibraryDone reads (ended job_status made) (IsLimitTold made) before now taken is_started counts_before counts_now →
    LibraryDone reads (ended status_of (in_stage refusal.Job made)) (IsLimitRefused (in_stage refusal.Job made)) before now taken is_started counts_before counts_now
in_job reads (Ok job) before now taken is_started counts_before counts_now left = left
in_job reads (Err fault) before now taken is_started counts_before counts_now left = left

pub left_by_request : (words : List (List ℕ)) (r : Request) (made : Result Task JobFault) (before : Option (List File)) (now : Option Content) (taken : ℕ) (is_started : Bool) (counts_before counts_now : Counts) →
    request words ≡ Ok r → LibraryDone (reads_schema r.mode) (ended job_status made) (IsLimitTold made) before now taken is_started counts_before counts_now →
    LibraryDone (reads_for (request words)) (ended status_of (in_stage refusal.Job made)) (IsLimitRefused (in_stage refusal.Job made)) before now taken is_started counts_before counts_now
left_by_request words r made before now taken is_started counts_before counts_now is left =
    subst (λ (q : Result Request UsageFault). LibraryDone (reads_for q) (ended status_of (in_stage refusal.Job made)) (IsLimitRefused (in_stage refusal.Job made)) before now taken is_started counts_before counts_now)
    (sym is) (in_job (reads_schema r.mode) made before now taken is_started counts_before counts_now left)

-- what is decided of a request that reads a schema, or of a sample
pub reads-other : (mode : Mode) → mode ≢ Sample → reads_schema mode ≡ true
reads-other Check other = refl
reads-other Snapshot other = refl
reads-other Unit other = refl
reads-other Row other = refl
reads-other Apply other = refl
reads-other Sample other = absurd (other refl)
reads-other Play other = refl
reads-other Details other = refl
reads-other DetailsUnit other = refl
reads-other DetailsApply other = refl
reads-other Undo other = refl
reads-other Revert other = refl

pub decided_by : (reads : Bool) (told : Option (List File)) (r : Request) (made : Result Task JobFault) → reads_schema r.mode ≡ reads →
    IfSome told (λ files. IsDecided job_status task_due (IsPlanned r files (plan_by reads r files)) made) → IfSome told (λ files. IsDecided job_status task_due (IsJobOver r files) made)
decided_by reads told r made is decided =
    subst (λ (b : Bool). IfSome told (λ files. IsDecided job_status task_due (IsPlanned r files (plan_by b r files)) made)) (sym is) decided

-- ---- a plan, or none

-- what is decided where there is no plan
pub decided_without_plan : (told : Option (List File)) (r : Request) (name : List ℕ) (fault : PlanFault) → name ≡ r.schema →
    IfSome told (λ files. Decides plan_status (λ plan. plan) (Err fault) (plan_in files name)) →
    IfSome told (λ files. IsDecided job_status task_due (IsPlanned r files (plan_in files r.schema)) (Err (job.Plan fault)))
decided_without_plan None r name fault is decided = tt
decided_without_plan (Some files) r name fault is decided = λ free.
    subst (λ (made : Result Project PlanFault). IsPlanned r files made (Err (job.Plan fault))) (sym (ap (plan_in files) (sym is) ∙ decided free)) refl

-- what is decided of a plan
pub decided_with_plan : (told mid : Option (List File)) (r : Request) (name : List ℕ) (plan : Project) (answer : Result Task JobFault) → name ≡ r.schema →
    IfSome told (λ files. Decides plan_status (λ plan. plan) (Ok plan) (plan_in files name)) → mid ≡ told →
    IfSome mid (λ files. IsDecided job_status task_due (IsInMode r.mode r plan files) answer) →
    IfSome told (λ files. IsDecided job_status task_due (IsPlanned r files (plan_in files r.schema)) answer)
decided_with_plan None mid r name plan answer is planned same decided = tt
decided_with_plan (Some files) mid r name plan answer is planned same decided =
    subst (λ (made : Result Project PlanFault). IsDecided job_status task_due (IsPlanned r files made) answer) (sym (ap (plan_in files) (sym is) ∙ planned))
    (IfSome-same (λ (f : List File). IsDecided job_status task_due (IsInMode r.mode r plan f) answer) mid (Some files) same decided)

-- a plan is in its limits
pub limits_without_plan : (told : Option (List File)) (r : Request) (name : List ℕ) (fault : PlanFault) → name ≡ r.schema →
    IfSome told (λ files. Decides plan_status (λ plan. plan) (Err fault) (plan_in files name)) → is_free (plan_status fault) ≡ false →
    IfSome told (λ files. IfOk (plan_in files r.schema) IsInLimits)
limits_without_plan None r name fault is decided free = tt
limits_without_plan (Some files) r name fault is decided free =
    subst (λ (made : Result Project PlanFault). IfOk made IsInLimits) (sym (ap (plan_in files) (sym is) ∙ decided free)) tt

pub limits_with_plan : (told : Option (List File)) (r : Request) (name : List ℕ) (plan : Project) → name ≡ r.schema →
    IfSome told (λ files. Decides plan_status (λ plan. plan) (Ok plan) (plan_in files name)) → IsInLimits plan → IfSome told (λ files. IfOk (plan_in files r.schema) IsInLimits)
limits_with_plan None r name plan is planned limits = tt
limits_with_plan (Some files) r name plan is planned limits =
    subst (λ (made : Result Project PlanFault). IfOk made IsInLimits) (sym (ap (plan_in files) (sym is) ∙ planned)) limits

-- what is decided where words give a request
pub limits_of_words : (words : List (List ℕ)) (told : Option (List File)) (r : Request) (status : ℕ) → request words ≡ Ok r →
    (reads_schema r.mode ≡ true → is_free status ≡ false → IfSome told (λ files. IfOk (plan_in files r.schema) IsInLimits)) →
    IfOk (request words) (λ asked. reads_schema asked.mode ≡ true → is_free status ≡ false → IfSome told (λ files. IfOk (plan_in files asked.schema) IsInLimits))
limits_of_words words told r status is limits =
    subst (λ (q : Result Request UsageFault). IfOk q (λ asked. reads_schema asked.mode ≡ true → is_free status ≡ false → IfSome told (λ files. IfOk (plan_in files asked.schema) IsInLimits))) (sym is) limits

-- ---- what the library leaves

pub left_without_plan : (fault : PlanFault) (before : Option (List File)) (now : Option Content) (taken : ℕ) (is_started : Bool) (counts_before counts_now : Counts) →
    LibraryAfter (plan_status fault) (limit_at fault) before now taken is_started counts_before counts_now →
    LibraryLeft (plan_status fault) (IsLimitOf (job.Plan fault)) before now taken is_started counts_before counts_now
left_without_plan fault before now taken is_started counts_before counts_now after = record {
  files = after.files;
  read_out = λ yes. after.read_out;
  too_long = λ ten. (limit_at fault, refl, after.too_long ten);
  failed = after.failed;
  stopped = after.stopped;
  unfailed = after.unfailed;
}

pub left_with_plan : (status : ℕ) (IsLimit : ℕ → Type 0) (limit : ℕ) (before : Option (List File)) (mid now : Option Content) (taken_mid taken : ℕ) (started_mid is_started : Bool) (counts_before counts_mid counts_now : Counts) →
    LibraryAfter 0 limit before mid taken_mid started_mid counts_before counts_mid →
    LibraryLeft status IsLimit (told_files mid) now taken is_started counts_mid counts_now → LibraryLeft status IsLimit before now taken is_started counts_before counts_now
left_with_plan status IsLimit limit before mid now taken_mid taken started_mid is_started counts_before counts_mid counts_now after left =
    let sofar : Unfailed counts_before counts_mid = after.unfailed (λ e. absurd (cc)) in
    record {
      files = left.files ∙ after.files;
      read_out = left.read_out;
      too_long = left.too_long;
      failed = λ five. failed_then counts_before counts_mid counts_now sofar (left.failed five);
      stopped = left.stopped;
      unfailed = λ other. unfailed_then counts_before counts_mid counts_now sofar (left.unfailed other);
    }

-- what holds of a request does where words give it
pub where_asked : (P : Request → Type 0) (q : Result Request UsageFault) (r : Request) → q ≡ Ok r → P r → IfOk q P
where_asked P q r is fact = subst (λ (asked : Result Request UsageFault). IfOk asked P) (sym is) fact

pub where_any : (P Q : Request → Type 0) (q : Result Request UsageFault) → ((r : Request) → P r → Q r) → IfOk q P → IfOk q Q
where_any P Q (Err fault) follows fact = tt
where_any P Q (Ok r) follows fact = follows r fact

-- ---- the names that are asked

-- what a request asks for, its words do
pub asks_of_words : (words : List (List ℕ)) (r : Request) (told : Option (List File)) (before now : Option (List (List ℕ))) → request words ≡ Ok r →
    AsksInTurn (Ok r) told before now → AsksInTurn (request words) told before now
asks_of_words words r told before now is asks = subst (λ (q : Result Request UsageFault). AsksInTurn q told before now) (sym is) asks

-- no name was asked
asked_none : (list : List (List ℕ)) (before : Option (List (List ℕ))) → AskedPrefixOf list before before
asked_none list None = record { count = 0; asked = refl }
asked_none list (Some names) = record { count = 0; asked = ap Some (sym (append-nil names)) }

asked_none_told : (told : Option (List File)) (list : List File → List (List ℕ)) (before : Option (List (List ℕ))) → IfSome told (λ (f : List File). AskedPrefixOf (list f) before before)
asked_none_told None list before = tt
asked_none_told (Some f) list before = asked_none (list f) before

-- a schema with these bytes, and a declaration with these, and no words
abbrev held_by : List ℕ → Possible
held_by bytes = record { schema = bytes; dictionaries = []; details = []; lists = [] }

abbrev nothing_held : Possible
nothing_held = held_by []

pub asks_nothing : (q : Result Request UsageFault) (told : Option (List File)) (before : Option (List (List ℕ))) → AsksInTurn q told before before
asks_nothing q told before = record {
  told = asked_none_told told (reading_list q) before;
  held = nothing_held;
  untold = asked_none (possible_list q nothing_held) before;
}

-- nor was one alone
pub not-alone : (name : List ℕ) (asked : Option (List (List ℕ))) → AskedAlone name asked asked → ⊥
not-alone name None alone = alone
not-alone name (Some names) alone =
    let same : names ≡ names ++ name ∷ [] = cc in
    omega (arith, ap length same, length-append names (name ∷ []))

-- what is asked for where a schema is read
in_turn : (r : Request) (told : Option (List File)) (held : Possible) (before now : Option (List (List ℕ))) → reads_schema r.mode ≡ true →
    IfSome told (λ (f : List File). AskedPrefixOf (plan_names f r.schema ++ names_behind r f (plan_in f r.schema)) before now) →
    AskedPrefixOf (possible_names held.schema r.schema ++ possible_behind r held (schema_of held.schema)) before now → AsksInTurn (Ok r) told before now
in_turn r told held before now reads asks possible = record {
  told =
      subst (λ (b : Bool). IfSome told (λ (f : List File). AskedPrefixOf ((if b then plan_names f r.schema else []) ++ names_behind r f (plan_in f r.schema)) before now))
      (sym reads) asks;
  held = held;
  untold =
      subst (λ (b : Bool). AskedPrefixOf ((if b then possible_names held.schema r.schema else []) ++ possible_behind r held (schema_of held.schema)) before now) (sym reads)
      possible;
}

-- what its schema's name asks for, a request does
asks_told : (r : Request) (told : Option (List File)) (before now : Option (List (List ℕ))) → IfSome told (λ (f : List File). AskedPrefixOf (plan_names f r.schema) before now) →
    IfSome told (λ (f : List File). AskedPrefixOf (plan_names f r.schema ++ names_behind r f (plan_in f r.schema)) before now)
asks_told r None before now asks = tt
asks_told r (Some f) before now asks = first_of_more (plan_names f r.schema) (names_behind r f (plan_in f r.schema)) before now asks

asks_of_schema : (r : Request) (told : Option (List File)) (before now : Option (List (List ℕ))) → reads_schema r.mode ≡ true → AsksForPlan r.schema told before now →
    AsksInTurn (Ok r) told before now
asks_of_schema r told before now reads asks =
    let held : Possible = held_by asks.bytes in
    in_turn r told held before now reads (asks_told r told before now asks.told)
    (first_of_more (possible_names asks.bytes r.schema) (possible_behind r held (schema_of asks.bytes)) before now asks.untold)

pub asks_of_name : (r : Request) (name : List ℕ) (told : Option (List File)) (before now : Option (List (List ℕ))) → reads_schema r.mode ≡ true → name ≡ r.schema →
    AsksForPlan name told before now → AsksInTurn (Ok r) told before now
asks_of_name r name told before now reads is asks = asks_of_schema r told before now reads (subst (λ (n : List ℕ). AsksForPlan n told before now) is asks)

asks_then_told : (r : Request) (plan : Project) (told : Option (List File)) (possible : List (List ℕ)) (before mid now : Option (List (List ℕ))) →
    IfSome told (λ (f : List File). plan_in f r.schema ≡ Ok plan) → IfSome told (λ (f : List File). plan_names f r.schema ≡ possible) →
    mid ≡ option_map (λ names. names ++ possible) before → IfSome told (λ (f : List File). AskedPrefixOf (names_in_mode r.mode r plan f) mid now) →
    IfSome told (λ (f : List File). AskedPrefixOf (plan_names f r.schema ++ names_behind r f (plan_in f r.schema)) before now)
asks_then_told r plan None possible before mid now planned names asked asks = tt
asks_then_told r plan (Some f) possible before mid now planned names asked asks =
    subst (λ (made : Result Project PlanFault). AskedPrefixOf (plan_names f r.schema ++ names_behind r f made) before now) (sym planned)
    (subst (λ (first : List (List ℕ)). AskedPrefixOf (first ++ names_in_mode r.mode r plan f) before now) (sym names)
    (asked_then possible (names_in_mode r.mode r plan f) before mid now asked asks))

-- dictionaries have the names that the schema cites, and some words
same_project : (plan : Project) (words : List WordList) → lists_named (cited_by plan.schema) words ≡ plan.dictionaries → project_with_words plan.schema words ≡ plan
same_project plan words are = ap (project_of plan.schema) are

-- what a plan was made of, and then what its mode asks for
asks_behind : (r : Request) (plan : Project) (told : Option (List File)) (before mid now : Option (List (List ℕ))) → IfSome told (λ (f : List File). plan_in f r.schema ≡ Ok plan) →
    names_of plan.dictionaries ≡ cited_by plan.schema → PlanRead plan.schema r.schema told before mid → AsksInMode r plan told mid now → reads_schema r.mode ≡ true → AsksInTurn (Ok r) told before now
asks_behind r plan told before mid now planned named read asks reads =
    let words = words_read (cited_by plan.schema) plan.dictionaries named in
    let held : Possible = record { schema = read.bytes; dictionaries = words.0; details = asks.details; lists = asks.lists } in
    in_turn r told held before now reads (asks_then_told r plan told (possible_names read.bytes r.schema) before mid now planned read.told read.asked asks.told)
    (subst (λ (behind : List (List ℕ)). AskedPrefixOf (possible_names read.bytes r.schema ++ behind) before now)
    (ap (λ (p : Project). possible_in_mode r.mode r p asks.details asks.lists) (sym (same_project plan words.0 words.1)) ∙ ap (possible_behind r held) (sym read.read))
    (asked_then (possible_names read.bytes r.schema) (possible_in_mode r.mode r plan asks.details asks.lists) before mid now read.asked asks.untold))

planned_ok : (told : Option (List File)) (r : Request) (name : List ℕ) (plan : Project) → name ≡ r.schema →
    IfSome told (λ files. Decides plan_status (λ plan. plan) (Ok plan) (plan_in files name)) → IfSome told (λ (f : List File). plan_in f r.schema ≡ Ok plan)
planned_ok None r name plan is planned = tt
planned_ok (Some files) r name plan is planned = ap (plan_in files) (sym is) ∙ planned

pub asks_with_plan : (r : Request) (name : List ℕ) (plan : Project) (told told_mid : Option (List File)) (before mid now : Option (List (List ℕ))) →
    reads_schema r.mode ≡ true → name ≡ r.schema →
    IfSome told (λ files. Decides plan_status (λ plan. plan) (Ok plan) (plan_in files name)) → names_of plan.dictionaries ≡ cited_by plan.schema →
    PlanRead plan.schema name told before mid → told_mid ≡ told → AsksInMode r plan told_mid mid now → AsksInTurn (Ok r) told before now
asks_with_plan r name plan told told_mid before mid now reads is planned named read same asks =
    asks_behind r plan told before mid now (planned_ok told r name plan is planned) named
    (subst (λ (n : List ℕ). PlanRead plan.schema n told before mid) is read)
    (subst (λ (t : Option (List File)). AsksInMode r plan t mid now) same asks) reads

-- ---- words that are at fault

fault-status : (fault : UsageFault) → fault ≢ usage.Memory → status_of (refusal.Words fault) ≡ 2
fault-status usage.Memory other = absurd (other refl)
fault-status usage.Words other = refl
fault-status usage.Mode other = refl
fault-status (usage.Unwanted name) other = refl
fault-status (usage.Missing name) other = refl
fault-status (usage.Number name) other = refl
fault-status (usage.EmptyDirectory name) other = refl
fault-status usage.Format other = refl
fault-status usage.Header other = refl

usage_status : (q : Result Request UsageFault) (r : Refusal) → IfErr q (λ fault. fault ≢ usage.Memory) →
    IfErr q (λ fault. ◌≡◌ {A = Result Task Refusal} (Err r) (Err (refusal.Words fault))) → OnOk q (status_of r ≢ 2) → (status_of r ≡ 2) ↔ IsErr q
usage_status (Ok q) r no_memory told other = (λ two. absurd (other two), λ err. absurd (cc))
usage_status (Err fault) r no_memory told other =
    (λ two. refl, λ err. let same : r ≡ refusal.Words fault = cc in ap status_of same ∙ fault-status fault no_memory)

-- a refusal has status 2 exactly where the words give no request
pub refused-usage : (words : List (List ℕ)) (r : Refusal) → IfErr (request words) (λ fault. fault ≢ usage.Memory) →
    IfErr (request words) (λ fault. ◌≡◌ {A = Result Task Refusal} (Err r) (Err (refusal.Words fault))) → OnOk (request words) (status_of r ≢ 2) →
    (status_of r ≡ 2) ↔ IsErr (request words)
refused-usage words r no_memory told other = usage_status (request words) r no_memory told other

-- ---- what the library leaves

-- what was read is read to its end
pub read_to_the_end : (before now : Option Content) → told_files now ≡ told_files before → IsReadOut now → option_map left now ≡ option_map (λ (c : Content). []) before
read_to_the_end None None same out = refl
read_to_the_end None (Some n) same out = absurd (cc)
read_to_the_end (Some b) None same out = absurd (cc)
read_to_the_end (Some b) (Some n) same out = ap Some out

-- a report tells a refusal's status
pub longer-told : (taken limit status told : ℕ) → told ≡ status → (taken ≤ limit) ⊎ (status ≡ 10) → taken ≡ limit + 1 → told ≡ 10
longer-told taken limit status told is (inl within) longer = absurd (omega (arith, within, longer))
longer-told taken limit status told is (inr ten) longer = is ∙ ten

pub within-told : (q : Result Request UsageFault) (taken limit status told : ℕ) → told ≡ status → (reads_for q ≡ true → (status ≡ 0) ⊎ (status ≡ 9) → taken ≤ limit) →
    IfOk q (λ asked. reads_schema asked.mode ≡ true → (told ≡ 0) ⊎ (told ≡ 9) → taken ≤ limit)
within-told (Err fault) taken limit status told is within = tt
within-told (Ok r) taken limit status told is within = λ reads ends. within reads (subst (λ (s : ℕ). (s ≡ 0) ⊎ (s ≡ 9)) is ends)
