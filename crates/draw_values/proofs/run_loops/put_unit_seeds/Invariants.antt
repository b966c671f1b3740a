use Rattle.std.proofs.Common.{◌≡◌, ℕ, ◌<◌, get_or}
use Rattle.philox_seeds.specs.SeedTree.{unit_seed}
use Rattle.draw_values.proofs.run_loops.put_unit_seeds.Given as goal

abbrev pub invariant-loop-i : goal.invariant-loop-i
invariant-loop-i l = (k : ℕ) → k < l.i → get_or l.seeds k 0 ≡ unit_seed l.column (get_or l.units k 0)
