use Rattle.id_permutation.proofs.OrderLaws.{IsBijectionBelow-place_in, AreInversesBelow-number_at}
use Rattle.id_permutation.proofs.laws.an_order_is_a_bijection.Goals as goal

pub returns-clause-bijection : goal.returns-clause-bijection
returns-clause-bijection c order = IsBijectionBelow-place_in order

pub returns-clause-inverse : goal.returns-clause-inverse
returns-clause-inverse c order = AreInversesBelow-number_at order
