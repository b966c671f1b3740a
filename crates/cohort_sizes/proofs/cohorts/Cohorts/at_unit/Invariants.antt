use Rattle.std.proofs.Common.{◌≤◌, take}
use Rattle.cohort_sizes.specs.Stretches.{end_of}
use Rattle.cohort_sizes.proofs.cohorts.Cohorts.at_unit.Given as goal

abbrev pub invariant-loop-stretch : goal.invariant-loop-stretch
invariant-loop-stretch l = end_of (take l.stretch-index l.stretch-items) ≤ l.unit
