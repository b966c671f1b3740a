use Rattle.std.proofs.Common.{◌≡◌, ◌<◌, ℕ, get_or, length}
use Rattle.life_intervals.proofs.runs.put_unit.Given as goal

abbrev pub invariant-loop-i : goal.invariant-loop-i
invariant-loop-i l = record {
  same_length : length l.units ≡ length l.initial.units;
  same : (k : ℕ) → k < l.i → get_or l.units k 0 ≡ l.unit;
}
