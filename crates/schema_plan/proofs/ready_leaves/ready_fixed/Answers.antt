use Rattle.std.proofs.Common.{arith, lit<}
use Rattle.std.proofs.Math.Nat.{one-le-pow}
use Rattle.schema_plan.proofs.ready_leaves.ready_fixed.Goals as goal

pub new-requires : goal.new-requires
new-requires c = omega (arith, c.pow.ensures, one-le-pow c.count-decimals.result 10 (lit< tt))
