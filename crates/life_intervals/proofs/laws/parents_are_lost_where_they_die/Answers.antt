use Rattle.life_intervals.proofs.LifeLemmas.{loss_of-death}
use Rattle.life_intervals.proofs.laws.parents_are_lost_where_they_die.Goals as goal

pub returns : goal.returns
returns c = loss_of-death
