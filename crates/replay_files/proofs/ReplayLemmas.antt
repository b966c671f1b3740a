-- A replay as it reads its inputs: what comes of it, what is asked, and what is left of the library.
use Rattle.std.proofs.Common.{◌≡◌, ◌≢◌, ◌<◌, ◌≤◌, ◌+◌, ◌-◌, ℕ, suc, Bool, false, List, [], ◌∷◌, ◌++◌, append-nil, append_assoc, drop, length, take, Option, None, Some, Result, Ok, Err, inl, inr, refl, ap, sym, subst, ◌∙◌, arith}
use Rattle.std.specs.Prelude.{◌⊎◌, IfSome, if◌then◌else◌}
use Rattle.std.specs.Option.{option_map}
use Rattle.std.proofs.Math.Seq.{take-add}
use Rattle.std.proofs.lemmas.Bool.{cases_lt, le-ltb, lt-ltb}
use Rattle.std.proofs.lemmas.List.{length-append, length-take-le, take-map}
use Rattle.std.proofs.lemmas.List.Sums.{sum_by-append}
use Rattle.pd_outside.proofs.Counts.{unfailed_same}
use Rattle.pd_outside.specs.Faults.{Counts}
use Rattle.pd_outside.specs.Files.{File, bytes_of}
use Rattle.pd_outside.specs.Library.{AskedPrefixOf, Content, left, read_out}
use Rattle.pd_outside.specs.declared.faults.ReadFault.{ReadFault}
use Rattle.pd_outside.specs.declared.faults.ReadFault.TheVariants as read
use Rattle.plan_stages.specs.Inputs.{AskedInTurn, AskedToFault, InputUnread, InputsRead, all_read_out, first_too_long, input_status, inputs_in, inputs_of, taken_of_last, total_length, unless_too_long}
use Rattle.plan_stages.specs.PlanNames.{AskedNone}
use Rattle.plan_stages.specs.Stages.{Decides, IsReadOut, told_files}
use Rattle.plan_stages.specs.declared.inputs.UnreadInput.{UnreadInput}
use Rattle.plan_stages.proofs.DictionaryLemmas.{asked_first}
use Rattle.plan_stages.proofs.InputLemmas.{files_stay}
use Rattle.refusals.specs.Statuses.{is_free, job_status, reading_status}
use Rattle.refusals.specs.declared.refusal.InputCause.TheVariants.{Reading}
use Rattle.refusals.specs.declared.refusal.JobFault.{JobFault}
use Rattle.refusals.specs.declared.refusal.JobFault.TheVariants as job
use Rattle.request_words.specs.declared.usage.Request.{Request}
use Rattle.run_jobs.specs.Jobs.{due_of}
use Rattle.run_jobs.specs.Outcome.{IsLimitOf, LibraryLeft, IsDecided}
use Rattle.run_jobs.specs.declared.job.Job.{Job}
use Rattle.replay_files.specs.Replay.{IsReadAndMade, IsReplayDue, input_names, input_paths, named_fault, paths_read, up_to_long}
use Rattle.run_jobs.specs.InputFiles.{input_limit}
use Rattle.replay_files.specs.declared.replay.Replay.{Replay}
use Rattle.run_jobs.proofs.AskedNameLemmas.{asked_some}

-- ---- what comes of it

-- memory ran out
pub no_memory : (told : Option (List File)) (delimiter : ℕ) (r : Request) (replay : Replay) →
    IfSome told (λ files. IsDecided job_status due_of (IsReplayDue delimiter r replay files) (Err job.Memory))
no_memory None delimiter r replay = tt
no_memory (Some files) delimiter r replay = λ free. absurd (cc)

pub read_and_made : (delimiter : ℕ) (r : Request) (replay : Replay) (files : List File) (inputs : Result (List (List ℕ)) UnreadInput) (answer : Result (List File) JobFault) →
    inputs_in files (input_paths r replay) input_limit ≡ inputs → IsReadAndMade delimiter r replay inputs answer → IsReplayDue delimiter r replay files answer
read_and_made delimiter r replay files inputs answer is made = subst (λ (i : Result (List (List ℕ)) UnreadInput). IsReadAndMade delimiter r replay i answer) (sym is) made

-- an input isn't read
pub unread_decided : (told : Option (List File)) (delimiter : ℕ) (r : Request) (replay : Replay) (names paths : List (List ℕ)) (fault : UnreadInput) (refused : JobFault) →
    names ≡ input_names r replay → paths ≡ input_paths r replay → refused ≡ named_fault names fault.number (Reading fault.cause) →
    IfSome told (λ files. Decides input_status (λ inputs. inputs) (Err fault) (inputs_in files paths input_limit)) →
    IfSome told (λ files. IsDecided job_status due_of (IsReplayDue delimiter r replay files) (Err refused))
unread_decided None delimiter r replay names paths fault refused named are is decided = tt
unread_decided (Some files) delimiter r replay names paths fault refused named are is decided = λ free.
    let status : job_status refused ≡ input_status fault = ap job_status is in
    let known : is_free (input_status fault) ≡ false = subst (λ (s : ℕ). is_free s ≡ false) status free in
    read_and_made delimiter r replay files (Err fault) (Err refused)
    (ap (λ (p : List (List ℕ)). inputs_in files p input_limit) (sym are) ∙ decided known)
    (ap Err (is ∙ ap (λ (n : List (List ℕ)). named_fault n fault.number (Reading fault.cause)) named))

-- what the inputs come to
pub made_decided : (told : Option (List File)) (delimiter : ℕ) (r : Request) (replay : Replay) (paths inputs : List (List ℕ)) (answer : Result Job JobFault) →
    paths ≡ input_paths r replay →
    IfSome told (λ files. Decides input_status (λ inputs. inputs) (Ok inputs) (inputs_in files paths input_limit)) →
    IsDecided job_status due_of (IsReadAndMade delimiter r replay (Ok inputs)) answer →
    IfSome told (λ files. IsDecided job_status due_of (IsReplayDue delimiter r replay files) answer)
made_decided None delimiter r replay paths inputs answer are decided made = tt
made_decided (Some files) delimiter r replay paths inputs (Ok job) are decided made =
    read_and_made delimiter r replay files (Ok inputs) (Ok (due_of job))
    (ap (λ (p : List (List ℕ)). inputs_in files p input_limit) (sym are) ∙ decided) made
made_decided (Some files) delimiter r replay paths inputs (Err fault) are decided made = λ free.
    read_and_made delimiter r replay files (Ok inputs) (Err fault)
    (ap (λ (p : List (List ℕ)). inputs_in files p input_limit) (sym are) ∙ decided) (made free)

-- ---- what is left of the library

-- nothing was read
pub left_alone : (status : ℕ) (IsLimit : ℕ → Type 0) (content : Option Content) (taken : ℕ) (is_started : Bool) (counts : Counts) → status ≢ 5 → status ≢ 10 → IsReadOut content →
    LibraryLeft status IsLimit (told_files content) content taken is_started counts counts
left_alone status IsLimit content taken is_started counts other long out = record {
  files = refl;
  read_out = λ yes zero. out;
  too_long = λ ten. absurd (long ten);
  failed = λ five. absurd (other five);
  stopped = λ five. absurd (other five);
  unfailed = λ five. unfailed_same counts;
}

-- inputs were read, each to its end
all_out : (names : List (List ℕ)) (content : Content) → left content ≡ [] → left (all_read_out names content) ≡ []
all_out [] content out = out
all_out (name ∷ names) content out = all_out names (read_out content) refl

all_out_told : (names : List (List ℕ)) (before now : Option Content) → IsReadOut before → now ≡ option_map (all_read_out names) before → IsReadOut now
all_out_told names None now out is = subst IsReadOut (sym is) tt
all_out_told names (Some content) now out is = subst IsReadOut (sym is) (all_out names content out)

pub left_by_inputs : (status : ℕ) (IsLimit : ℕ → Type 0) (inputs names : List (List ℕ)) (limit : ℕ) (before now : Option Content) (taken_before taken_now : ℕ) (is_started : Bool) (counts_before counts_now : Counts) →
    status ≢ 5 → status ≢ 10 → IsReadOut before → InputsRead inputs names limit before now taken_before taken_now counts_before counts_now →
    LibraryLeft status IsLimit (told_files before) now taken_now is_started counts_before counts_now
left_by_inputs status IsLimit inputs names limit before now taken_before taken_now is_started counts_before counts_now other long out read = record {
  files = files_stay names before now read.read_out;
  read_out = λ yes zero. all_out_told names before now out read.read_out;
  too_long = λ ten. absurd (long ten);
  failed = λ five. absurd (other five);
  stopped = λ five. absurd (other five);
  unfailed = λ five. read.unfailed;
}

-- an input isn't read
pub left_by_unread : (fault : UnreadInput) (refused : JobFault) (names paths : List (List ℕ)) (before now : Option Content) (taken : ℕ) (is_started : Bool) (counts_before counts_now : Counts) →
    refused ≡ named_fault names fault.number (Reading fault.cause) →
    InputUnread fault paths input_limit before now taken is_started counts_before counts_now →
    LibraryLeft (job_status refused) (IsLimitOf refused) (told_files before) now taken is_started counts_before counts_now
left_by_unread fault refused names paths before now taken is_started counts_before counts_now is of =
    subst (λ (r : JobFault). LibraryLeft (job_status r) (IsLimitOf r) (told_files before) now taken is_started counts_before counts_now) (sym is) (record {
      files = of.library.files;
      read_out = λ yes. of.library.read_out;
      too_long = λ ten. (of.own_limit, of.within, of.library.too_long ten);
      failed = of.library.failed;
      stopped = of.library.stopped;
      unfailed = of.library.unfailed;
    })

-- its status is that of the read
pub record IsReadStatus (status : ℕ) : Type 0 where
  pub usable : status ≢ 2
  pub is_schema : status ≢ 3
  pub undone : status ≢ 0
  pub no_line : status ≢ 9

pub unread_status : (names : List (List ℕ)) (number : ℕ) (cause : ReadFault) (refused : JobFault) → refused ≡ named_fault names number (Reading cause) → IsReadStatus (job_status refused)
unread_status names number cause refused is = subst (λ (r : JobFault). IsReadStatus (job_status r)) (sym is) (of_cause cause)
  where
    of_cause : (cause : ReadFault) → IsReadStatus (reading_status cause)
    of_cause read.Failed = record { usable = λ e. absurd (cc); is_schema = λ e. absurd (cc); undone = λ e. absurd (cc); no_line = λ e. absurd (cc) }
    of_cause read.TooLong = record { usable = λ e. absurd (cc); is_schema = λ e. absurd (cc); undone = λ e. absurd (cc); no_line = λ e. absurd (cc) }
    of_cause read.Memory = record { usable = λ e. absurd (cc); is_schema = λ e. absurd (cc); undone = λ e. absurd (cc); no_line = λ e. absurd (cc) }

-- how many bytes were taken of the last input
pub taken_within : (inputs : List (List ℕ)) (limit before : ℕ) → before ≤ limit → total_length inputs ≤ limit → taken_of_last inputs before ≤ limit
taken_within [] limit before first total = first
taken_within (bytes ∷ rest) limit before first total =
    let parts : total_length (bytes ∷ rest) ≡ total_length (bytes ∷ []) + total_length rest = sum_by-append length (bytes ∷ []) rest in
    let one : total_length (bytes ∷ []) ≡ length bytes = omega arith in
    taken_within rest limit (length bytes) (omega (arith, parts, one, total)) (omega (arith, parts, one, total))

-- ---- the names that are asked

pub first_names : (paths : List (List ℕ)) (count : ℕ) (before now : Option (List (List ℕ))) → AskedInTurn (take count paths) before now → AskedPrefixOf paths before now
first_names paths count before now asked = record { count = count; asked = asked }

pub all_names : (paths : List (List ℕ)) (before now : Option (List (List ℕ))) → AskedInTurn paths before now → AskedPrefixOf paths before now
all_names paths before now asked = asked_first paths paths [] before now asked (sym (append-nil paths))

pub asked_at_most : (paths : List (List ℕ)) (fault : UnreadInput) (taken : ℕ) (before now : Option (List (List ℕ))) → AskedToFault fault paths taken before now →
    AskedPrefixOf paths before now
asked_at_most paths fault taken before now asked = go asked.at_most
  where
    go : AskedInTurn (take (fault.number + 1) paths) before now ⊎ (AskedInTurn (take fault.number paths) before now × (taken ≡ 0)) → AskedPrefixOf paths before now
    go (inl once) = first_names paths (fault.number + 1) before now once
    go (inr never) = first_names paths fault.number before now never.0

pub asked_all : (r : Request) (replay : Replay) (paths : List (List ℕ)) (before now : Option (List (List ℕ))) → paths ≡ input_paths r replay → AskedInTurn paths before now →
    AskedPrefixOf (input_paths r replay) before now
asked_all r replay paths before now are turn = subst (λ (p : List (List ℕ)). AskedPrefixOf p before now) are (all_names paths before now turn)

pub asked_up_to : (r : Request) (replay : Replay) (paths : List (List ℕ)) (fault : UnreadInput) (taken : ℕ) (before now : Option (List (List ℕ))) → paths ≡ input_paths r replay →
    AskedToFault fault paths taken before now → AskedPrefixOf (input_paths r replay) before now
asked_up_to r replay paths fault taken before now are to = subst (λ (p : List (List ℕ)). AskedPrefixOf p before now) are (asked_at_most paths fault taken before now to)

-- the same where files are told
list_is : (r : Request) (replay : Replay) (files : List File) (paths : List (List ℕ)) (inputs : Result (List (List ℕ)) UnreadInput) (before now : Option (List (List ℕ))) →
    paths ≡ input_paths r replay → inputs_in files paths input_limit ≡ inputs → AskedPrefixOf (up_to_long paths inputs) before now → AskedPrefixOf (paths_read r replay files) before now
list_is r replay files paths inputs before now are is first =
    subst (λ (p : List (List ℕ)). AskedPrefixOf (up_to_long p (inputs_in files p input_limit)) before now) are
    (subst (λ (i : Result (List (List ℕ)) UnreadInput). AskedPrefixOf (up_to_long paths i) before now) (sym is) first)

pub asked_all_told : (told : Option (List File)) (r : Request) (replay : Replay) (paths inputs : List (List ℕ)) (before now : Option (List (List ℕ))) → paths ≡ input_paths r replay →
    IfSome told (λ files. Decides input_status (λ inputs. inputs) (Ok inputs) (inputs_in files paths input_limit)) → AskedInTurn paths before now →
    IfSome told (λ files. AskedPrefixOf (paths_read r replay files) before now)
asked_all_told None r replay paths inputs before now are decided turn = tt
asked_all_told (Some files) r replay paths inputs before now are decided turn = list_is r replay files paths (Ok inputs) before now are decided (all_names paths before now turn)

-- inputs up to the first that is too long have too many bytes
pub long_behind : (limit : ℕ) (before inputs : List (List ℕ)) (number : ℕ) → first_too_long limit before inputs ≡ Some number →
    (length before ≤ number) × (limit < total_length (before ++ take (number + 1 - length before) inputs))
long_behind limit before [] number is = absurd (cc)
long_behind limit before (bytes ∷ rest) number is =
    elim (cases_lt limit (total_length (before ++ bytes ∷ []))) [
      | inl long ↦
          let here : Some (length before) ≡ Some number =
          sym (ap (λ (b : Bool). if b then Some (length before) else first_too_long limit (before ++ bytes ∷ []) rest) (lt-ltb limit (total_length (before ++ bytes ∷ [])) long)) ∙ is in
          let same : length before ≡ number = cc in
          let one : number + 1 - length before ≡ 1 = omega (arith, same) in
          (omega (arith, same), subst (λ (n : ℕ). limit < total_length (before ++ take n (bytes ∷ rest))) (sym one) long)
      | inr short ↦
          let there : first_too_long limit (before ++ bytes ∷ []) rest ≡ Some number =
          sym (ap (λ (b : Bool). if b then Some (length before) else first_too_long limit (before ++ bytes ∷ []) rest) (le-ltb limit (total_length (before ++ bytes ∷ [])) short)) ∙ is in
          let next = long_behind limit (before ++ bytes ∷ []) rest number there in
          let count : length (before ++ bytes ∷ []) ≡ length before + 1 = length-append before (bytes ∷ []) in
          let more : number + 1 - length before ≡ suc (number + 1 - length (before ++ bytes ∷ [])) = omega (arith, next.0, count) in (
            omega (arith, next.0, count),
            subst (λ (n : ℕ). limit < total_length (before ++ take n (bytes ∷ rest))) (sym more)
                (subst (λ (l : List (List ℕ)). limit < total_length l) (append_assoc before (bytes ∷ []) (take (number + 1 - length (before ++ bytes ∷ [])) rest)) next.1),
          )
    ]

fewer : (inputs : List (List ℕ)) (m n : ℕ) → m ≤ n → total_length (take m inputs) ≤ total_length (take n inputs)
fewer inputs m n le =
    let parts : take n inputs ≡ take m inputs ++ take (n - m) (drop m inputs) =
    ap (λ (k : ℕ). take k inputs) (let sum : n ≡ m + (n - m) = omega (arith, le) in sum) ∙ take-add m (n - m) inputs in
    omega (arith, ap total_length parts, sum_by-append length (take m inputs) (take (n - m) (drop m inputs)))

-- what fits ends before the first that is too long
fits_before : (limit : ℕ) (inputs : List (List ℕ)) (number place : ℕ) → first_too_long limit [] inputs ≡ Some number → total_length (take place inputs) ≤ limit → place ≤ number
fits_before limit inputs number place is fits =
    let long = long_behind limit [] inputs number is in
    let all : total_length ([] ++ take (number + 1 - length {A = List ℕ} []) inputs) ≡ total_length (take (number + 1) inputs) =
    ap (λ (count : ℕ). total_length (take count inputs)) (let same : number + 1 - 0 ≡ number + 1 = omega arith in same) in
    elim (cases_lt number place) [
      | inl past ↦ absurd (omega (arith, fewer inputs (number + 1) place (omega (arith, past)), fits, all, long.1))
      | inr within ↦ within
    ]

take_of_take : (paths : List (List ℕ)) (m n : ℕ) → m ≤ n → take n paths ≡ take m paths ++ take (n - m) (drop m paths)
take_of_take paths m n le = ap (λ (k : ℕ). take k paths) (let sum : n ≡ m + (n - m) = omega (arith, le) in sum) ∙ take-add m (n - m) paths

pub up_to : (paths : List (List ℕ)) (place count : ℕ) (long : Option ℕ) (before now : Option (List (List ℕ))) (inputs : List (List ℕ)) → IfSome long (λ number. place ≤ number) → count ≤ place + 1 →
    AskedInTurn (take count paths) before now → AskedPrefixOf (up_to_long paths (unless_too_long long inputs)) before now
up_to paths place count None before now inputs within few turn = first_names paths count before now turn
up_to paths place count (Some number) before now inputs within few turn =
    asked_first (take (number + 1) paths) (take count paths) (take (number + 1 - count) (drop count paths)) before now turn
    (take_of_take paths count (number + 1) (omega (arith, within, few)))

pub fits_so_far : (files : List File) (names : List (List ℕ)) (place own : ℕ) (long : Option ℕ) → first_too_long input_limit [] (inputs_of files names) ≡ long →
    total_length (inputs_of files (take place names)) + own ≡ input_limit → IfSome long (λ number. place ≤ number)
fits_so_far files names place own None is limits = tt
fits_so_far files names place own (Some number) is limits =
    fits_before input_limit (inputs_of files names) number place is
    (omega (arith, limits, ap total_length (take-map (bytes_of files) place names)))

pub asked_up_to_told : (told : Option (List File)) (r : Request) (replay : Replay) (paths : List (List ℕ)) (fault : UnreadInput) (own taken : ℕ) (before now : Option (List (List ℕ))) →
    paths ≡ input_paths r replay → AskedToFault fault paths taken before now →
    IfSome told (λ files. total_length (inputs_of files (take fault.number paths)) + own ≡ input_limit) →
    IfSome told (λ files. AskedPrefixOf (paths_read r replay files) before now)
asked_up_to_told None r replay paths fault own taken before now are to limits = tt
asked_up_to_told (Some files) r replay paths fault own taken before now are to limits =
    let long : Option ℕ = first_too_long input_limit [] (inputs_of files paths) in
    let fits : IfSome long (λ number. fault.number ≤ number) = fits_so_far files paths fault.number own long refl limits in
    list_is r replay files paths (inputs_in files paths input_limit) before now are refl (go long fits to.at_most)
  where
    go : (long : Option ℕ) → IfSome long (λ number. fault.number ≤ number) →
        AskedInTurn (take (fault.number + 1) paths) before now ⊎ (AskedInTurn (take fault.number paths) before now × (taken ≡ 0)) →
        AskedPrefixOf (up_to_long paths (unless_too_long long (inputs_of files paths))) before now
    go long fits (inl once) = up_to paths fault.number (fault.number + 1) long before now (inputs_of files paths) fits (omega arith) once
    go long fits (inr never) = up_to paths fault.number fault.number long before now (inputs_of files paths) fits (omega arith) never.0

-- ---- what was taken where no name was asked

pub unasked_read : (names : List (List ℕ)) (taken earlier : ℕ) (before now : Option (List (List ℕ))) → 1 ≤ length names → AskedInTurn names before now → AskedNone before now → taken ≤ earlier
unasked_read names taken earlier before now some turn none = absurd (asked_some names before now some turn none)

pub unasked_fault : (paths : List (List ℕ)) (fault : UnreadInput) (taken earlier : ℕ) (before now : Option (List (List ℕ))) → fault.number < length paths → AskedToFault fault paths taken before now →
    AskedNone before now → taken ≤ earlier
unasked_fault paths fault taken earlier before now within to none = go to.at_most
  where
    go : AskedInTurn (take (fault.number + 1) paths) before now ⊎ (AskedInTurn (take fault.number paths) before now × (taken ≡ 0)) → taken ≤ earlier
    go (inl once) =
        let some : 1 ≤ length (take (fault.number + 1) paths) = omega (arith, length-take-le (fault.number + 1) paths (omega (arith, within))) in
        absurd (asked_some (take (fault.number + 1) paths) before now some once none)
    go (inr never) = omega (arith, never.1)
