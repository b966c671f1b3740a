use Rattle.std.proofs.Common.{ap, ◌∙◌}
use Rattle.id_permutation.specs.Placement.{mix}
use Rattle.id_permutation.proofs.PlacementLaws.{unmix-is, unplace-ahead}
use Rattle.id_permutation.proofs.RoundLaws.{mix-number_of}
use Rattle.id_permutation.proofs.WalkLaws.{LiesAhead-ended}
use Rattle.id_permutation.proofs.table_network.TableNetwork.settled_back.Goals as goal

pub walk_back-requires-clause-unmixed : goal.walk_back-requires-clause-unmixed
walk_back-requires-clause-unmixed c =
    let network = c.args.self.now.network in
    ap (mix network.size network.seed) c.join-number.ensures.exact
    ∙ mix-number_of network.size network.seed c.args.place network.height network.width c.args.halves network.tall network.wide c.requires.within c.requires.unmixed

pub returns-then-number-self : goal.returns-then-number-self
returns-then-number-self c =
    let network = c.args.self.now.network in
    LiesAhead-ended _ _ _ _ _ c.if-number-self.true
    (unplace-ahead _ _ _ _ network.some c.requires.below
    (unmix-is _ _ _ _ _ _ network.some network.tall network.wide c.join-number.ensures.within
    (ap (mix network.size network.seed) c.join-number.ensures.exact
    ∙ mix-number_of network.size network.seed c.args.place network.height network.width c.args.halves network.tall network.wide c.requires.within c.requires.unmixed)))
