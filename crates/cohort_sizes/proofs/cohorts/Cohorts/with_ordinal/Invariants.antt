use Rattle.std.proofs.Common.{◌≤◌, take}
use Rattle.cohort_sizes.specs.Births.{first_ordinal}
use Rattle.cohort_sizes.specs.Stretches.{end_of}
use Rattle.cohort_sizes.proofs.cohorts.Cohorts.with_ordinal.Given as goal

abbrev pub invariant-loop-stretch : goal.invariant-loop-stretch
invariant-loop-stretch l = first_ordinal l.self.births (end_of (take l.stretch-index l.stretch-items)) ≤ l.ordinal
