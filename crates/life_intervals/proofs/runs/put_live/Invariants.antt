use Rattle.std.proofs.Common.{◌≡◌, ◌<◌, ℕ, false, get_or, length}
use Rattle.life_intervals.proofs.runs.put_live.Given as goal

abbrev pub invariant-loop-i : goal.invariant-loop-i
invariant-loop-i l = record {
  same_length : length l.live ≡ length l.initial.live;
  same : (k : ℕ) → k < l.i → get_or l.live k false ≡ l.all;
}
