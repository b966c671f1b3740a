use Rattle.std.proofs.Common.{◌≡◌, ℕ, ◌<◌, ◌≤◌, get_or, length}
use Rattle.philox_seeds.specs.SeedTree.{row_seed}
use Rattle.draw_values.proofs.run_loops.put_row_seeds.Given as goal

abbrev pub invariant-loop-i : goal.invariant-loop-i
invariant-loop-i l = record {
  written : (k : ℕ) → k < l.i → get_or l.seeds k 0 ≡ row_seed (get_or l.initial.seeds k 0) (get_or l.ordinals k 0);
  kept : (k : ℕ) → l.i ≤ k → k < length l.initial.seeds → get_or l.seeds k 0 ≡ get_or l.initial.seeds k 0;
}
