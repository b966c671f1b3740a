use Rattle.std.proofs.Common.{arith}
use Rattle.std.proofs.lemmas.List.FromFn.{map-range_with_len_more}
use Rattle.philox_seeds.specs.SeedTree.{column_seed}
use Rattle.detail_lines.proofs.detail_lines.column_seeds.Goals as goal

pub loop-column-preserved : goal.loop-column-preserved
loop-column-preserved c =
    rw (map-range_with_len_more (column_seed c.args.seed) 0 c.loop-column.column c.loop-column.column (omega arith))
    (rw (← c.loop-column.invariant, ← c.column_seed.ensures.seed) c.in_ok-push.ensures.items)
