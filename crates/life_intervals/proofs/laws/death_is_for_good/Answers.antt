use Rattle.life_intervals.proofs.LifeLemmas.{death-later, own_death-later}
use Rattle.life_intervals.proofs.laws.death_is_for_good.Goals as goal

pub returns : goal.returns
returns c = record { death = death-later; own = own_death-later }
