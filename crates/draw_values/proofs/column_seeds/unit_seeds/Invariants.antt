use Rattle.std.proofs.Common.{◌≡◌, ℕ, ◌<◌, get_or, length}
use Rattle.philox_seeds.specs.SeedTree.{unit_seed}
use Rattle.draw_values.proofs.column_seeds.unit_seeds.Given as goal

abbrev pub invariant-loop-unit : goal.invariant-loop-unit
invariant-loop-unit l = record {
  seeds : (unit : ℕ) → unit < length l.seeds.items → get_or l.seeds.items unit 0 ≡ unit_seed l.column_seed unit;
  count : length l.seeds.items ≡ l.unit;
}
