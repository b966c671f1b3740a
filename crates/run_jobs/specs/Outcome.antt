-- What a request came to, and what it leaves of the library.
use Rattle.std.specs.Prelude.{◌≡◌, ℕ, List, Option, Result, Ok, Err, Bool, true, false, ◌≢◌, ◌≤◌, ◌+◌}
use Rattle.pd_outside.specs.Files.{File}
use Rattle.pd_outside.specs.Library.{Content}
use Rattle.plan_stages.specs.Plans.{limit_at}
use Rattle.plan_stages.specs.Stages.{told_files, IsReadOut}
use Rattle.refusals.specs.Statuses.{is_free}
use Rattle.refusals.specs.declared.refusal.JobFault.{JobFault}
use Rattle.refusals.specs.declared.refusal.JobFault.TheVariants as job
use Rattle.pd_outside.specs.Faults.{Counts, FailedAtLast, Unfailed}
use Rattle.run_jobs.specs.Details as details
use Rattle.run_jobs.specs.InputFiles.{input_limit}

-- an answer's value is what things come to, and its fault is, unless its status is one that no definition gives
abbrev pub IsDecided : {A B F : Type 0} → (F → ℕ) → (A → B) → (Result B F → Type 0) → Result A F → Type 0
IsDecided status view Is (Ok answer) = Is (Ok (view answer))
IsDecided status view Is (Err fault) = is_free (status fault) ≡ false → Is (Err fault)

-- a limit of the file that a fault tells as too long: that of the schema's text, of a dictionary or of a declaration, or, of an input, what those before it
-- leave of the limit of all
abbrev pub IsLimitOf : JobFault → ℕ → Type 0
IsLimitOf (job.Plan fault) limit = limit ≡ limit_at fault
IsLimitOf (job.Range name) limit = ⊥
IsLimitOf (job.Input fault) limit = limit ≤ input_limit
IsLimitOf (job.Details cause) limit = limit ≡ details.limit_at cause
IsLimitOf job.Memory limit = ⊥

abbrev pub IsLimitTold : {A : Type 0} → Result A JobFault → ℕ → Type 0
IsLimitTold (Ok answer) limit = ⊥
IsLimitTold (Err fault) limit = IsLimitOf fault limit

-- What a request that ends with a status leaves of the library, where it reads a schema or none: the files that are told, what is now left, how many bytes were taken of
-- the last file, whether one is started, and what is told of failed calls.
pub record LibraryDone (reads : Bool) (status : ℕ) (IsLimit : ℕ → Type 0) (before : Option (List File)) (now : Option Content) (taken : ℕ) (is_started : Bool) (counts_before counts_now : Counts) : Type 0 where
  -- files stay as they are
  pub files : told_files now ≡ before
  -- at the end of all that was read nothing is left
  pub read_out : reads ≡ true → status ≡ 0 → IsReadOut now
  -- a file was too long: a byte more than its limit was taken
  pub too_long : status ≡ 10 → (limit : ℕ) × IsLimit limit × (taken ≡ limit + 1)
  -- a read failed: once, and no file is started then; and it is told nowhere else
  pub failed : status ≡ 5 → FailedAtLast counts_before counts_now
  pub stopped : status ≡ 5 → is_started ≡ false
  pub unfailed : status ≢ 5 → Unfailed counts_before counts_now

-- the same where it reads one
abbrev pub LibraryLeft : ℕ → (ℕ → Type 0) → Option (List File) → Option Content → ℕ → Bool → Counts → Counts → Type 0
LibraryLeft status IsLimit before now taken is_started counts_before counts_now =
    LibraryDone true status IsLimit before now taken is_started counts_before counts_now
