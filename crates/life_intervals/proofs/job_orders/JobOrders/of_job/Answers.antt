use Rattle.std.proofs.Common.{arith}
use Rattle.life_intervals.specs.JobOrders.{AreTableOrders, entries_of_table}
use Rattle.life_intervals.proofs.KeptLemmas.{each-more, sum_by-more}
use Rattle.life_intervals.proofs.job_orders.JobOrders.of_job.Goals as goal

pub loop-table-preserved : goal.loop-table-preserved
loop-table-preserved c = record {
  asked = c.loop-table.invariant.asked;
  count = omega (arith, c.in_ok-push.ensures.len, c.loop-table.invariant.count);
  kept = each-more (AreTableOrders c.args.plan.now) c.loop-table.tables.items _ c.in_ok-new.field-0 c.loop-table.table c.loop-table.invariant.count c.in_ok-push.ensures.items c.loop-table.invariant.kept c.in_ok-new.ensures.kept;
  entries = omega (arith, sum_by-more entries_of_table c.loop-table.tables.items _ c.in_ok-new.field-0 c.in_ok-push.ensures.items, c.in_ok-new.ensures.entries, c.loop-table.invariant.entries);
}
