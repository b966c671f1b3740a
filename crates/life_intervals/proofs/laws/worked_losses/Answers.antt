use Rattle.std.proofs.Common.{refl}
use Rattle.weight_tables.specs.Weights.{selected}
use Rattle.cohort_sizes.specs.Births.{birth}
use Rattle.life_intervals.specs.Simulation.{rows_at, simulation}
use Rattle.life_intervals.specs.Streams.{deleted, updated}
use Rattle.life_intervals.proofs.laws.worked_losses.Goals as goal

pub returns : goal.returns
unfolding simulation rows_at deleted updated selected birth
returns c = record { simulated = refl; closed = refl; remarks_deleted = refl; remarks_updated = refl }
