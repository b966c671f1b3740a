use Rattle.std.proofs.Common.{◌≡◌, ℕ, pos, ◌<◌, ◌+ℤ◌, get_or}
use Rattle.draw_values.specs.Values.{chosen_group}
use Rattle.draw_values.proofs.run_numbers.choose_skewed.Given as goal

abbrev pub invariant-loop-i : goal.invariant-loop-i
invariant-loop-i l = (k : ℕ) → k < l.i → get_or l.values k (pos 0) ≡ l.lo +ℤ pos (chosen_group l.weights (get_or l.draws k 0))
