use Rattle.life_intervals.proofs.SimulationLemmas.{rows_at-rows_of}
use Rattle.life_intervals.proofs.laws.rows_are_those_of_the_living.Goals as goal

pub returns : goal.returns
returns c = rows_at-rows_of
