use Rattle.std.proofs.Common.{◌≡◌, map}
use Rattle.std.specs.List.{range_with_len}
use Rattle.philox_seeds.specs.SeedTree.{column_seed}
use Rattle.detail_lines.proofs.detail_lines.column_seeds.Given as goal

abbrev pub invariant-loop-column : goal.invariant-loop-column
invariant-loop-column l = l.seeds.items ≡ map (column_seed l.seed) (range_with_len 0 l.column)
