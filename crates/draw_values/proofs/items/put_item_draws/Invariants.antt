use Rattle.std.proofs.Common.{◌≡◌, ℕ, ◌<◌, ◌+◌, get_or}
use Rattle.philox_seeds.specs.SeedTree.{draw}
use Rattle.draw_values.proofs.items.put_item_draws.Given as goal

abbrev pub invariant-loop-i : goal.invariant-loop-i
invariant-loop-i l = (k : ℕ) → k < l.i → get_or l.draws k 0 ≡ draw l.seed (l.first + k)
