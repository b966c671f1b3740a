use Rattle.std.proofs.Common.{ℕ, subst, arith}
use Rattle.fixed_divisors.specs.Reciprocal.{IsEstimate}
use Rattle.fixed_divisors.proofs.Estimates.{IsEstimate-high_half}
use Rattle.fixed_divisors.proofs.FixedDivisor.estimate.Goals as goal

pub returns : goal.returns
returns c =
    let IsEstimateBy : ℕ → Type 0 = λ d. IsEstimate c.args.x d c.high_half.result in
    subst IsEstimateBy c.self.view_is (IsEstimate-high_half _ _ _ _ (omega arith) c.self.invariant c.high_half.ensures)
