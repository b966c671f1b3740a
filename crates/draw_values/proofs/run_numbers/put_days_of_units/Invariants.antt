use Rattle.std.proofs.Common.{◌≡◌, ℕ, pos, ◌<◌, ◌*◌, ◌+ℤ◌, get_or}
use Rattle.draw_values.proofs.run_numbers.put_days_of_units.Given as goal

abbrev pub invariant-loop-i : goal.invariant-loop-i
invariant-loop-i l = (k : ℕ) → k < l.i → get_or l.days k (pos 0) ≡ l.start +ℤ pos (l.step * get_or l.units k 0)
