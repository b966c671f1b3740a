use Rattle.std.proofs.Common.{◌≡◌, ◌-◌, length, map, take}
use Rattle.life_intervals.proofs.runs.put_indices.Given as goal

abbrev pub invariant-loop-i : goal.invariant-loop-i
invariant-loop-i l = record {
  same_length : length l.indices ≡ length l.ordinals;
  so_far : take l.i l.indices ≡ map (λ j. j - l.first) (take l.i l.ordinals);
}
