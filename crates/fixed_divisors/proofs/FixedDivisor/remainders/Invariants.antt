use Rattle.std.proofs.Common.{◌≡◌, ◌%◌, ◌++◌, map, take, drop}
use Rattle.fixed_divisors.proofs.FixedDivisor.remainders.Given as goal

abbrev pub invariant-loop-number : goal.invariant-loop-number
invariant-loop-number l =
    l.numbers ≡ map (λ x. x % l.divisor) (take l.number-index l.initial.numbers) ++ drop l.number-index l.initial.numbers
