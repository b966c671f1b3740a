use Rattle.std.proofs.Common.{◌≡◌, ◌≤◌, ℕ, get_or, length, map, take}
use Rattle.life_intervals.specs.References.{choice}
use Rattle.life_intervals.proofs.window.CandidateWindow.put_numbers.Given as goal

abbrev pub invariant-loop-i : goal.invariant-loop-i
invariant-loop-i l = record {
  same_length : length l.places ≡ length l.initial.places;
  so_far : take l.i l.places ≡ map (λ place. choice l.reference.spread l.count place) (take l.i l.initial.places);
  rest : (k : ℕ) → l.i ≤ k → get_or l.places k 0 ≡ get_or l.initial.places k 0;
}
