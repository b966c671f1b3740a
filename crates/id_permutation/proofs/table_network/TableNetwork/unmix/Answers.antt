use Rattle.std.proofs.Common.{ap, ◌∙◌}
use Rattle.id_permutation.specs.Placement.{mix}
use Rattle.id_permutation.proofs.TableLaws.{rounds-six}
use Rattle.id_permutation.proofs.RoundLaws.{mix-number_of}
use Rattle.id_permutation.proofs.table_network.TableNetwork.unmix.Goals as goal

pub returns-clause-undone : goal.returns-clause-undone
returns-clause-undone c =
    let network = c.args.self.now.network in
    ap (mix network.size network.seed) c.join.ensures.exact
    ∙ mix-number_of network.size network.seed c.args.mixed network.height network.width c.unmix_pair-halves-3.result network.tall network.wide c.unmix_pair-halves-3.ensures.within
    (cc (rounds-six network.height network.width network.seed c.unmix_pair-halves-3.result, c.split-halves.ensures.exact, c.unmix_pair-halves-3.ensures.undone, c.unmix_pair-halves-2.ensures.undone, c.unmix_pair-halves.ensures.undone))
