use Rattle.std.proofs.Common.{ℕ, arith}
use Rattle.id_permutation.specs.Placement.{unplace}
use Rattle.id_permutation.proofs.LoopLaws.{map_over_next}
use Rattle.id_permutation.proofs.network.Network.numbers.Goals as goal

pub loop-place-preserved : goal.loop-place-preserved
loop-place-preserved c =
    map_over_next (λ (y : ℕ). unplace c.args.self.now.size c.args.self.now.seed y) _ _ _ _ (omega arith) c.loop-place.auto.places c.loop-place.invariant c.unplace.ensures.exact
