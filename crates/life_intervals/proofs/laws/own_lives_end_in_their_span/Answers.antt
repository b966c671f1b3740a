use Rattle.life_intervals.proofs.FoundAtLemmas.{own_death-in_span}
use Rattle.life_intervals.proofs.laws.own_lives_end_in_their_span.Goals as goal

pub returns : goal.returns
returns c = own_death-in_span
