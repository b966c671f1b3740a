use Rattle.std.proofs.Common.{◌≡◌, ◌≤◌, ◌<◌, ◌+◌, ◌%◌, ℕ, Some, get_or, length}
use Rattle.life_intervals.specs.Ends.{earlier_end}
use Rattle.life_intervals.proofs.run_ends.put_earlier.Given as goal

abbrev pub invariant-loop-i : goal.invariant-loop-i
invariant-loop-i l = record {
  same_length : length l.ends ≡ length l.places;
  done : (k : ℕ) → k < l.i → get_or l.ends k 0 ≡ earlier_end (get_or l.initial.ends k 0) (Some (l.first + get_or l.places k 0 % l.lengths));
  rest : (k : ℕ) → l.i ≤ k → get_or l.ends k 0 ≡ get_or l.initial.ends k 0;
}
