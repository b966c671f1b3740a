use Rattle.std.proofs.Common.{arith}
use Rattle.std.proofs.Math.Nat.{one-le-pow}
use Rattle.draw_values.proofs.fixed.put_number.Goals as goal

pub new-unit-requires : goal.new-unit-requires
new-unit-requires c = omega (arith, c.pow.ensures, one-le-pow c.args.number.decimals 10 (omega arith))
