use Rattle.std.proofs.Common.{◌≡◌, length, map, take}
use Rattle.std.specs.Prelude.{nat_lt}
use Rattle.life_intervals.proofs.runs.put_lasting.Given as goal

abbrev pub invariant-loop-i : goal.invariant-loop-i
invariant-loop-i l = record {
  same_length : length l.live ≡ length l.ends;
  so_far : take l.i l.live ≡ map (λ end. nat_lt l.t end) (take l.i l.ends);
}
