use Rattle.id_permutation.proofs.WalkLaws.{LiesAhead-ended}
use Rattle.id_permutation.proofs.PlacementLaws.{below-area, place-ahead}
use Rattle.id_permutation.proofs.table_network.TableNetwork.place.Goals as goal

pub mix-place-requires : goal.mix-place-requires
mix-place-requires c =
    let network = c.args.self.now.network in
    record { within = below-area _ _ _ _ network.some network.tall network.wide c.requires.below }

pub returns-then-place-self : goal.returns-then-place-self
returns-then-place-self c = record {
  exact = LiesAhead-ended _ _ _ _ _ c.if-place-self.true (place-ahead _ _ _ _ c.args.self.now.network.some c.requires.below c.mix-place.ensures.exact);
}
