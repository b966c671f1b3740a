use Rattle.std.proofs.Common.{arith}
use Rattle.range_workers.proofs.laws.worked_claims.Goals as goal

pub returns-clause-twice : goal.returns-clause-twice
returns-clause-twice c rule = absurd (omega (arith, rule.numbers.each_once 2))

pub returns-clause-past : goal.returns-clause-past
returns-clause-past c rule = absurd (omega (arith, rule.numbers.each_once 3))
