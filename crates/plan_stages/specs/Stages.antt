-- What the stages of a request answer, what a definition says that they are to, and what they leave of the library.
use Rattle.std.specs.Prelude.{◌≡◌, ◌≢◌, ◌≤◌, ◌+◌, ℕ, false, Bool, List, [], Option, Result, Ok, Err, IfSome}
use Rattle.std.specs.Option.{option_map}
use Rattle.pd_outside.specs.Faults.{Counts, FailedAtLast, Unfailed}
use Rattle.pd_outside.specs.Files.{File}
use Rattle.pd_outside.specs.Library.{Content, left}
use Rattle.refusals.specs.Statuses.{done_status, is_free}
use Rattle.plan_stages.specs.Limits.{dictionary_limit}

-- what comes of an answer, where it isn't a fault
abbrev pub on_ok : {A B F : Type 0} → Result A F → (A → Result B F) → Result B F
on_ok (Err fault) next = Err fault
on_ok (Ok answer) next = next answer

-- what a stage answers, with its fault as one of the stage that it belongs to
abbrev pub in_stage : {A F G : Type 0} → (F → G) → Result A F → Result A G
in_stage wrap (Ok answer) = Ok answer
in_stage wrap (Err fault) = Err (wrap fault)

-- an answer is the defined one's value, and a fault the defined one, unless its status is one that no definition gives
abbrev pub Decides : {A B F : Type 0} → (F → ℕ) → (A → B) → Result A F → Result B F → Type 0
Decides status view (Ok answer) decided = decided ≡ Ok (view answer)
Decides status view (Err fault) decided = is_free (status fault) ≡ false → decided ≡ Err fault

-- the status of what a stage answers
abbrev pub ended : {A F : Type 0} → (F → ℕ) → Result A F → ℕ
ended status (Ok answer) = done_status
ended status (Err fault) = status fault

-- the limit of the file that it tells as too long, by what the limit is at its fault
abbrev pub limit_told : {A F : Type 0} → (F → ℕ) → Result A F → ℕ
limit_told limit (Ok answer) = 0
limit_told limit (Err fault) = limit fault

-- ---- what is left of the library

-- the files of a library that tells them
abbrev pub told_files : Option Content → Option (List File)
told_files content = option_map (λ (c : Content). c.files) content

-- nothing is left of the started file, where it is told
abbrev pub IsReadOut : Option Content → Type 0
IsReadOut content = IfSome content (λ (c : Content). left c ≡ [])

-- What a stage that ends with a status leaves of the library, where it read files of at most some limit: the files that are told,
-- what is now left, how many bytes were taken of the last file, whether one is started, and what is told of failed calls.
pub record LibraryAfter (status limit : ℕ) (before : Option (List File)) (now : Option Content) (taken : ℕ) (is_started : Bool) (counts_before counts_now : Counts) : Type 0 where
  -- files stay as they are
  pub files : told_files now ≡ before
  -- at the end of all that was read nothing is left, and no file was too long
  pub read_out : status ≡ 0 → IsReadOut now
  pub within : status ≡ 0 → taken ≤ dictionary_limit
  -- a file was too long: a byte more than its limit was taken
  pub too_long : status ≡ 10 → taken ≡ limit + 1
  -- a read failed: once, and no file is started then; and it is told nowhere else
  pub failed : status ≡ 5 → FailedAtLast counts_before counts_now
  pub stopped : status ≡ 5 → is_started ≡ false
  pub unfailed : status ≢ 5 → Unfailed counts_before counts_now
