use Rattle.std.proofs.Common.{arith}
use Rattle.life_intervals.specs.Generator.{generator_of, last_unit}
use Rattle.life_intervals.proofs.AcceptedLemmas.{AreSound-accepted, length-tables}
use Rattle.life_intervals.proofs.KnownLemmas.{IsSure-known_of}
use Rattle.life_intervals.proofs.LongestLifeLemmas.{EndsBy-known_of}
use Rattle.life_intervals.proofs.laws.lives_last_from_the_sure_to_the_longest.Goals as goal

pub returns-clause-sure : goal.returns-clause-sure
returns-clause-sure c = λ project limits place below.
    IsSure-known_of (last_unit project) (generator_of project) (AreSound-accepted project limits) place (omega (arith, below, length-tables project))

pub returns-clause-longest : goal.returns-clause-longest
returns-clause-longest c = λ project limits place below.
    EndsBy-known_of (last_unit project) (generator_of project) (AreSound-accepted project limits) place (omega (arith, below, length-tables project))
