use Rattle.std.proofs.Common.{◌≡◌, ℕ, pos, ◌<◌, get_or}
use Rattle.draw_values.specs.Values.{chosen}
use Rattle.draw_values.proofs.run_numbers.choose_whole.Given as goal

abbrev pub invariant-loop-i : goal.invariant-loop-i
invariant-loop-i l = (k : ℕ) → k < l.i → get_or l.values k (pos 0) ≡ chosen l.lo l.hi l.step (get_or l.draws k 0)
