use Rattle.std.proofs.Common.{◌+◌, ap, ◌∙◌}
use Rattle.fixed_divisors.proofs.Estimates.{quotient-rest, remainder-rest}
use Rattle.fixed_divisors.proofs.FixedDivisor.divide.Goals as goal

pub returns-clause-quotient : goal.returns-clause-quotient
returns-clause-quotient c =
    ap (λ n. c.estimate-estimate.result + n) c.times_left.ensures
    ∙ quotient-rest _ _ _ _ c.self.view_is c.self.invariant.some c.estimate-estimate.ensures

pub returns-clause-remainder : goal.returns-clause-remainder
returns-clause-remainder c = c.reduced.ensures ∙ remainder-rest _ _ _ _ c.self.view_is c.estimate-estimate.ensures
