use Rattle.std.proofs.Common.{◌≡◌, take}
use Rattle.detail_plan.proofs.beside.copied_numbers.Given as goal

abbrev pub invariant-loop-number : goal.invariant-loop-number
invariant-loop-number l = l.copied ≡ take l.number-index l.numbers
