-- Failed calls: a count that every implementation keeps, and what the exact ones tell beside it. All counts are numbers of 64
-- bits that stop at the end of their type.
use Rattle.std.specs.Prelude.{◌≡◌, ◌<◌, ◌≤◌, ◌⊎◌, ℕ, ◌+◌, ◌-◌, ◌^◌, min, Bool, true, Option, Some, None, IfSome, Result, OnOk, OnErr, is_err, is_ok, if◌then◌else◌}
use Rattle.std.specs.Option.{option_map}

-- the last number of 64 bits
abbrev pub last_count : ℕ
last_count = 2 ^ 64 - 1

-- one more, where there is one
abbrev pub counted : ℕ → ℕ
counted n = min (n + 1) last_count

-- the count rose during a call, or it stands at the end of its type
abbrev pub Rose : ℕ → ℕ → Type 0
Rose before now = (before < now) ⊎ (now ≡ last_count)

-- the count of faults after a call: one more where it failed
abbrev pub faults_after : {T E : Type 0} → Result T E → ℕ → ℕ
faults_after result before = if is_ok result then before else counted before

-- What is told of failed calls. Every implementation counts: the count rises wherever a call fails, and never falls. An exact one
-- also tells how many calls failed, and whether the last call did.
pub record Counts : Type 0 where
  pub faults : ℕ
  pub failed : Option ℕ
  pub last_failed : Option Bool

-- an exact count without what the last call did, and one with it
abbrev pub exact_count : ℕ → Counts
exact_count faults = record { faults = faults; failed = Some faults; last_failed = None }

abbrev pub exact_counts : ℕ → Bool → Counts
exact_counts faults last_failed = record { faults = faults; failed = Some faults; last_failed = Some last_failed }

-- how many calls failed, after one that did
abbrev pub one_more : Option ℕ → Option ℕ
one_more failed = option_map counted failed

-- the same after a call
abbrev pub failed_after : {T E : Type 0} → Result T E → Option ℕ → Option ℕ
failed_after result failed = if is_ok result then failed else one_more failed

-- What one call does to the counts.
pub record CallMade {T E : Type 0} (result : Result T E) (before now : Counts) : Type 0 where
  pub never_falls : before.faults ≤ now.faults
  pub cause : OnErr result (Rose before.faults now.faults)
  pub failed : now.failed ≡ failed_after result before.failed
  pub last : IfSome now.last_failed (λ last. last ≡ is_err result)

-- No call failed meanwhile.
pub record Unfailed (before now : Counts) : Type 0 where
  pub never_falls : before.faults ≤ now.faults
  pub failed : now.failed ≡ before.failed

-- One call failed meanwhile, the last one: so nothing was called after it.
pub record FailedAtLast (before now : Counts) : Type 0 where
  pub never_falls : before.faults ≤ now.faults
  pub rose : Rose before.faults now.faults
  pub failed : now.failed ≡ one_more before.failed
  pub last : IfSome now.last_failed (λ last. last ≡ true)

-- Of all the calls that were made meanwhile none failed but the last, and that one exactly where the answer is a failure.
pub record CallsMade {T E : Type 0} (result : Result T E) (before now : Counts) : Type 0 where
  pub unfailed : OnOk result (Unfailed before now)
  pub failed : OnErr result (FailedAtLast before now)
