use Rattle.std.proofs.Common.{arith}
use Rattle.philox_seeds.specs.SeedTree.{row_seed}
use Rattle.philox_seeds.proofs.InPlace.{map_over_next}
use Rattle.philox_seeds.proofs.batches.row_seeds.Goals as goal

pub loop-ordinal-preserved : goal.loop-ordinal-preserved
loop-ordinal-preserved c =
    map_over_next (row_seed c.args.unit_seed) _ _ _ _ (omega arith) c.loop-ordinal.auto.ordinals c.loop-ordinal.invariant c.row_seed.ensures.seed
