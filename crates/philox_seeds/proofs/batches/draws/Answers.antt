use Rattle.std.proofs.Common.{arith}
use Rattle.philox_seeds.specs.SeedTree.{draw}
use Rattle.philox_seeds.proofs.InPlace.{map_over_next}
use Rattle.philox_seeds.proofs.batches.draws.Goals as goal

pub loop-seed-preserved : goal.loop-seed-preserved
loop-seed-preserved c =
    map_over_next (λ seed. draw seed c.args.n) _ _ _ _ (omega arith) c.loop-seed.auto.seeds c.loop-seed.invariant c.draw.ensures.number
