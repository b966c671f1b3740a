-- What the cohorts of a table are, and what the code keeps of them.
use Rattle.std.specs.Prelude.{◌≤◌, ℕ, ◌+◌, ◌^◌, List}
use Rattle.cohort_sizes.specs.declared.rate.Rate.{Rate}
use Rattle.cohort_sizes.specs.declared.stretch.Stretch.{Stretch}
use Rattle.cohort_sizes.specs.Births.{Births, born_count}
use Rattle.cohort_sizes.specs.Stretches.{AreStretches}

-- a table's births, and the last unit of which its cohorts are told
pub record BirthsUpTo : Type 0 where
  pub births : Births
  pub last : ℕ

-- those of some rows at unit 0 and some rates
abbrev pub births_up_to : ℕ → List Rate → ℕ → BirthsUpTo
births_up_to rows rates last = record { births = record { rows = rows; rates = rates }; last = last }

-- what is kept is the stretches up to the last unit, by which at most 2^40 rows are born
pub record AreCohorts (of : BirthsUpTo) (kept : List Stretch) : Type 0 where
  pub last : of.last ≤ 10000
  pub stretches : AreStretches of.births (of.last + 1) kept
  pub limit : born_count of.births of.last ≤ 2 ^ 40
