use Rattle.std.proofs.Common.{◌≡◌, ℕ, ◌<◌, ◌≤◌, get_or, length}
use Rattle.draw_values.specs.Values.{chosen_group}
use Rattle.draw_values.proofs.run_loops.choose_words.Given as goal

abbrev pub invariant-loop-number : goal.invariant-loop-number
invariant-loop-number l = record {
  places : (k : ℕ) → k < l.number-index → get_or l.draws k 0 ≡ chosen_group l.words.weights (get_or l.initial.draws k 0);
  within : (k : ℕ) → k < l.number-index → get_or l.draws k 0 < length l.words.entries;
  kept : (k : ℕ) → l.number-index ≤ k → k < length l.initial.draws → get_or l.draws k 0 ≡ get_or l.initial.draws k 0;
}
