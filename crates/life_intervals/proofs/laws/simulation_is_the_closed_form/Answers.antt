use Rattle.life_intervals.proofs.SimulationLemmas.{simulation-interval_state}
use Rattle.life_intervals.proofs.laws.simulation_is_the_closed_form.Goals as goal

pub returns : goal.returns
returns c = simulation-interval_state
