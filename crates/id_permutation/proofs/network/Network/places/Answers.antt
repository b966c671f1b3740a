use Rattle.std.proofs.Common.{ℕ, arith}
use Rattle.id_permutation.specs.Placement.{place}
use Rattle.id_permutation.proofs.LoopLaws.{map_over_next}
use Rattle.id_permutation.proofs.network.Network.places.Goals as goal

pub loop-number-preserved : goal.loop-number-preserved
loop-number-preserved c =
    map_over_next (λ (x : ℕ). place c.args.self.now.size c.args.self.now.seed x) _ _ _ _ (omega arith) c.loop-number.auto.numbers c.loop-number.invariant c.place.ensures.exact
