use Rattle.std.proofs.Common.{arith}
use Rattle.id_permutation.specs.Placement.{rounds}
use Rattle.id_permutation.proofs.PlacementLaws.{below-area}
use Rattle.id_permutation.proofs.table_network.TableNetwork.split_four.Goals as goal

pub split-requires : goal.split-requires
split-requires c =
    let network = c.args.self.now.network in
    below-area _ _ _ _ network.some network.tall network.wide (c.requires.below 0 0 (omega (arith, c.requires.four)))

pub split-requires-2 : goal.split-requires-2
split-requires-2 c =
    let network = c.args.self.now.network in
    below-area _ _ _ _ network.some network.tall network.wide (c.requires.below 1 0 (omega (arith, c.requires.four)))

pub split-requires-3 : goal.split-requires-3
split-requires-3 c =
    let network = c.args.self.now.network in
    below-area _ _ _ _ network.some network.tall network.wide (c.requires.below 2 0 (omega (arith, c.requires.four)))

pub split-requires-4 : goal.split-requires-4
split-requires-4 c =
    let network = c.args.self.now.network in
    below-area _ _ _ _ network.some network.tall network.wide (c.requires.below 3 0 (omega (arith, c.requires.four)))

pub returns-clause-exact : goal.returns-clause-exact
unfolding rounds
returns-clause-exact c = cc (c.split.ensures.exact, c.split-2.ensures.exact, c.split-3.ensures.exact, c.split-4.ensures.exact)
