use Rattle.std.proofs.Common.{ap}
use Rattle.id_permutation.specs.Placement.{rounds}
use Rattle.id_permutation.specs.declared.fours.Four.{Four}
use Rattle.id_permutation.proofs.table_network.TableNetwork.put_four_numbers.Goals as goal

pub settled_back-requires-clause-unmixed : goal.settled_back-requires-clause-unmixed
unfolding rounds
settled_back-requires-clause-unmixed c = ap (λ (four : Four). four.first) c.requires.unmixed

pub settled_back-requires-2-clause-unmixed : goal.settled_back-requires-2-clause-unmixed
unfolding rounds
settled_back-requires-2-clause-unmixed c = ap (λ (four : Four). four.second) c.requires.unmixed

pub settled_back-requires-3-clause-unmixed : goal.settled_back-requires-3-clause-unmixed
unfolding rounds
settled_back-requires-3-clause-unmixed c = ap (λ (four : Four). four.third) c.requires.unmixed

pub settled_back-requires-4-clause-unmixed : goal.settled_back-requires-4-clause-unmixed
unfolding rounds
settled_back-requires-4-clause-unmixed c = ap (λ (four : Four). four.fourth) c.requires.unmixed
