use Rattle.std.proofs.Common.{◌≡◌, ◌++◌, map, take, drop}
use Rattle.philox_seeds.specs.SeedTree.{row_seed}
use Rattle.philox_seeds.proofs.batches.row_seeds.Given as goal

abbrev pub invariant-loop-ordinal : goal.invariant-loop-ordinal
invariant-loop-ordinal l =
    l.ordinals ≡ map (row_seed l.unit_seed) (take l.ordinal-index l.initial.ordinals) ++ drop l.ordinal-index l.initial.ordinals
