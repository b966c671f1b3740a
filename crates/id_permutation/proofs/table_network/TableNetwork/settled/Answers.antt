use Rattle.std.proofs.Common.{◌∙◌}
use Rattle.id_permutation.proofs.PlacementLaws.{place-ahead}
use Rattle.id_permutation.proofs.RoundLaws.{number_of-rounds}
use Rattle.id_permutation.proofs.WalkLaws.{LiesAhead-ended}
use Rattle.id_permutation.proofs.table_network.TableNetwork.settled.Goals as goal

pub walk_on-requires-clause-mixed : goal.walk_on-requires-clause-mixed
walk_on-requires-clause-mixed c =
    let network = c.args.self.now.network in
    c.join-place.ensures.exact ∙ number_of-rounds network.size network.seed c.args.number network.height network.width c.args.halves network.tall network.wide c.requires.mixed

pub returns-then-place-self : goal.returns-then-place-self
returns-then-place-self c =
    let network = c.args.self.now.network in
    LiesAhead-ended _ _ _ _ _ c.if-place-self.true
    (place-ahead _ _ _ _ network.some c.requires.below
    (c.join-place.ensures.exact ∙ number_of-rounds network.size network.seed c.args.number network.height network.width c.args.halves network.tall network.wide c.requires.mixed))
