use Rattle.std.proofs.Common.{◌≡◌}
use Rattle.philox_seeds.specs.Philox.{philox_rounds, round_key}
use Rattle.philox_seeds.proofs.block.block.Given as goal

abbrev pub invariant-loop : goal.invariant-loop
invariant-loop l = (l.words ≡ philox_rounds l.counter l.fn.counter l.fn.key)
    × (l.key ≡ round_key l.fn.key l.counter)
