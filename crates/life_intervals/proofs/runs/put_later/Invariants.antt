use Rattle.std.proofs.Common.{◌≡◌, ◌≤◌, ◌<◌, ℕ, Some, get_or, length}
use Rattle.life_intervals.specs.Changes.{later_change}
use Rattle.life_intervals.proofs.runs.put_later.Given as goal

abbrev pub invariant-loop-i : goal.invariant-loop-i
invariant-loop-i l = record {
  same_length : length l.changes ≡ length l.ends;
  done : (k : ℕ) → k < l.i → get_or l.changes k 0 ≡ later_change l.t (get_or l.initial.changes k 0) (Some (get_or l.ends k 0));
  rest : (k : ℕ) → l.i ≤ k → get_or l.changes k 0 ≡ get_or l.initial.changes k 0;
}
