use Rattle.std.proofs.Common.{refl}
use Rattle.std.specs.Fmt.{digits}
use Rattle.value_tests.proofs.values.draws_choose_whole_numbers.Goals as goal

pub returns-clause-below_0 : goal.returns-clause-below_0
unfolding digits
returns-clause-below_0 c = refl

pub returns-clause-ends : goal.returns-clause-ends
unfolding digits
returns-clause-ends c = refl

pub returns-clause-from_0 : goal.returns-clause-from_0
unfolding digits
returns-clause-from_0 c = refl

pub returns-clause-greatest : goal.returns-clause-greatest
unfolding digits
returns-clause-greatest c = refl

pub returns-clause-steps : goal.returns-clause-steps
unfolding digits
returns-clause-steps c = refl

pub returns-clause-wide_step : goal.returns-clause-wide_step
unfolding digits
returns-clause-wide_step c = refl

pub returns-clause-to_0 : goal.returns-clause-to_0
unfolding digits
returns-clause-to_0 c = refl
