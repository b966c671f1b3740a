use Rattle.std.proofs.Common.{◌≡◌, ℕ, ◌+◌, ◌<◌, get_or}
use Rattle.philox_seeds.specs.SeedTree.{row_seed}
use Rattle.philox_seeds.proofs.batches.run_row_seeds.Given as goal

abbrev pub invariant-loop-i : goal.invariant-loop-i
invariant-loop-i l = (k : ℕ) → k < l.i → get_or l.seeds k 0 ≡ row_seed l.unit_seed (l.first + k)
