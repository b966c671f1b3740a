use Rattle.std.proofs.Common.{refl}
use Rattle.weight_tables.specs.Weights.{selected}
use Rattle.life_intervals.specs.Simulation.{rows_at, simulation}
use Rattle.life_intervals.specs.Streams.{deleted, inserted, updated}
use Rattle.life_intervals.proofs.laws.worked_streams.Goals as goal

pub returns : goal.returns
unfolding simulation rows_at deleted updated inserted selected
returns c = record {
  customers_deleted = refl;
  orders_deleted = refl;
  lines_deleted = refl;
  customers_updated = refl;
  orders_updated = refl;
  customers_inserted = refl;
  orders_inserted = refl;
  lines_inserted = refl;
}
