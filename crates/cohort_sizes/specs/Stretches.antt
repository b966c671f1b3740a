-- How the code keeps births: stretches of units at each of which as many rows are born.
use Rattle.std.specs.Prelude.{◌≡◌, ℕ, ◌<◌, ◌≤◌, max, All, List, length, take}
use Rattle.std.specs.List.{fold}
use Rattle.std.proofs.Common.{get_or}
use Rattle.cohort_sizes.specs.declared.stretch.Stretch.{Stretch}
use Rattle.cohort_sizes.specs.Births.{Births, cohort_size, first_ordinal}

-- a stretch of a table's births
pub record IsStretch (births : Births) (stretch : Stretch) : Type 0 where
  pub some_unit : stretch.from < stretch.until
  pub first : stretch.first ≡ first_ordinal births stretch.from
  pub end : stretch.end ≡ first_ordinal births stretch.until
  pub sizes : (unit : ℕ) → stretch.from ≤ unit → unit < stretch.until → cohort_size births unit ≡ stretch.size
  pub divisor : stretch.divisor ≡ max 1 stretch.size

-- the unit after the last of some stretches; 1 where there is none
abbrev pub end_of : List Stretch → ℕ
end_of stretches = fold (λ before (stretch : Stretch). stretch.until) 1 stretches

-- stretches from unit 1 up to, and not with, another: each begins where the one before it ends
pub record AreStretches (births : Births) (end : ℕ) (stretches : List Stretch) : Type 0 where
  pub each : All (IsStretch births) stretches
  pub joined : (k : ℕ) (d : Stretch) → k < length stretches → (get_or stretches k d).from ≡ end_of (take k stretches)
  pub ends : end_of stretches ≡ end
