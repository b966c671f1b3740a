use Rattle.std.proofs.Common.{◌≡◌, ◌++◌, map, take, drop}
use Rattle.philox_seeds.specs.SeedTree.{draw}
use Rattle.philox_seeds.proofs.batches.draws.Given as goal

abbrev pub invariant-loop-seed : goal.invariant-loop-seed
invariant-loop-seed l =
    l.seeds ≡ map (λ seed. draw seed l.n) (take l.seed-index l.initial.seeds) ++ drop l.seed-index l.initial.seeds
