use Rattle.life_intervals.proofs.LifeLemmas.{death-first}
use Rattle.life_intervals.proofs.laws.death_is_the_first_of_its_own_and_the_parents.Goals as goal

pub returns : goal.returns
returns c = death-first
