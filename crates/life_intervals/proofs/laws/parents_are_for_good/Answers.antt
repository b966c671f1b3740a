use Rattle.life_intervals.proofs.ChildLemmas.{parent_of-later}
use Rattle.life_intervals.proofs.laws.parents_are_for_good.Goals as goal

pub returns : goal.returns
returns c = parent_of-later
