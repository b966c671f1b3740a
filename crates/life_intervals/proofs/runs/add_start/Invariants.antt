use Rattle.std.proofs.Common.{◌≡◌, ◌≤◌, ◌+◌, ℕ, get_or, length, map, take}
use Rattle.life_intervals.proofs.runs.add_start.Given as goal

abbrev pub invariant-loop-i : goal.invariant-loop-i
invariant-loop-i l = record {
  same_length : length l.numbers ≡ length l.initial.numbers;
  so_far : take l.i l.numbers ≡ map (λ j. l.start + j) (take l.i l.initial.numbers);
  rest : (k : ℕ) → l.i ≤ k → get_or l.numbers k 0 ≡ get_or l.initial.numbers k 0;
}
