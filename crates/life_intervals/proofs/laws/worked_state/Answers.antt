use Rattle.std.proofs.Common.{refl}
use Rattle.weight_tables.specs.Weights.{selected}
use Rattle.cohort_sizes.specs.Births.{birth}
use Rattle.life_intervals.specs.Simulation.{simulation}
use Rattle.life_intervals.proofs.laws.worked_state.Goals as goal

pub returns : goal.returns
unfolding simulation selected birth
returns c = record { simulated = refl; closed = refl }
