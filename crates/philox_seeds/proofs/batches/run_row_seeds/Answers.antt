use Rattle.std.proofs.Common.{arith}
use Rattle.philox_seeds.specs.SeedTree.{row_seed}
use Rattle.philox_seeds.proofs.InPlace.{map_range_written}
use Rattle.philox_seeds.proofs.batches.run_row_seeds.Goals as goal

pub returns : goal.returns
returns c = map_range_written (row_seed c.args.unit_seed) _ _ _ _ c.loop-i.auto.seeds (omega arith) c.loop-i.invariant
