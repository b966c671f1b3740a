use Rattle.id_permutation.proofs.WalkLaws.{LiesAhead-ended}
use Rattle.id_permutation.proofs.PlacementLaws.{below-area, unmix-is, unplace-ahead}
use Rattle.id_permutation.proofs.table_network.TableNetwork.unplace.Goals as goal

pub unmix-number-requires : goal.unmix-number-requires
unmix-number-requires c =
    let network = c.args.self.now.network in
    record { within = below-area _ _ _ _ network.some network.tall network.wide c.requires.below }

pub returns-then-number-self : goal.returns-then-number-self
returns-then-number-self c =
    let network = c.args.self.now.network in
    let step = c.unmix-number.ensures in
    record {
      exact = LiesAhead-ended _ _ _ _ _ c.if-number-self.true (unplace-ahead _ _ _ _ network.some c.requires.below (unmix-is _ _ _ _ _ _ network.some network.tall network.wide step.within step.undone));
    }
