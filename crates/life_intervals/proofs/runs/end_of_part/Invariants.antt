use Rattle.std.proofs.Common.{◌≡◌, ◌≤◌, ◌<◌, ◌+◌, ◌-◌, ℕ, get_or, length}
use Rattle.life_intervals.proofs.runs.end_of_part.Given as goal

abbrev pub invariant-loop-until : goal.invariant-loop-until
invariant-loop-until l = record {
  born : l.born ≡ get_or l.births l.from 0;
  after : l.from < l.until;
  within : l.until ≤ l.end;
  room : l.end ≤ length l.births;
  few : l.end ≤ l.from + 256;
  same : (i : ℕ) → l.from ≤ i → i < l.until → get_or l.births i 0 ≡ get_or l.births l.from 0;
}

abbrev pub decreases-loop-until : goal.decreases-loop-until
decreases-loop-until l = l.end - l.until
