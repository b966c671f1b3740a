use Rattle.std.proofs.Common.{◌∙◌}
use Rattle.id_permutation.proofs.TableLaws.{rounds-six}
use Rattle.id_permutation.proofs.RoundLaws.{number_of-rounds}
use Rattle.id_permutation.proofs.table_network.TableNetwork.mix.Goals as goal

pub returns-clause-exact : goal.returns-clause-exact
returns-clause-exact c =
    let network = c.args.self.now.network in
    c.join.ensures.exact
    ∙ number_of-rounds network.size network.seed c.args.number network.height network.width c.mix_pair-halves-3.result network.tall network.wide
    (cc (rounds-six network.height network.width network.seed c.split-halves.result, c.split-halves.ensures.exact, c.mix_pair-halves.ensures.exact, c.mix_pair-halves-2.ensures.exact, c.mix_pair-halves-3.ensures.exact))
