use Rattle.std.proofs.Common.{◌≡◌}
use Rattle.cohort_sizes.specs.Births.{first_ordinal}
use Rattle.cohort_sizes.specs.Rates.{begin_of_rate}
use Rattle.cohort_sizes.specs.Stretches.{AreStretches}
use Rattle.cohort_sizes.proofs.cohorts.stretches_of.Given as goal

abbrev pub invariant-loop-place : goal.invariant-loop-place
invariant-loop-place l = record {
  stretches : AreStretches (record { rows = l.rows; rates = l.rates }) (begin_of_rate l.rates l.place l.last) l.stretches.items;
  first : l.first ≡ first_ordinal (record { rows = l.rows; rates = l.rates }) (begin_of_rate l.rates l.place l.last);
}
