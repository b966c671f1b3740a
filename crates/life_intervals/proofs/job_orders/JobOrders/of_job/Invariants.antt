use Rattle.std.proofs.Common.{◌≡◌, ◌+◌, ◌^◌, length}
use Rattle.life_intervals.specs.JobOrders.{AreOrdersOf, entries_of}
use Rattle.life_intervals.proofs.job_orders.JobOrders.of_job.Given as goal

-- the orders of the tables before one, and the room that they have taken
abbrev pub invariant-loop-table : goal.invariant-loop-table
invariant-loop-table l = record {
  asked : length l.asked.items ≡ l.from + l.count;
  count : length l.tables.items ≡ l.table;
  kept : AreOrdersOf l.plan l.tables.items;
  entries : entries_of l.tables.items + l.room.entries ≡ 2 ^ 23;
}
