use Rattle.std.proofs.Common.{◌≡◌, ◌+◌, length, sum_by}
use Rattle.life_intervals.specs.JobOrders.{AreAllParentOrders, entries_of_parent}
use Rattle.life_intervals.proofs.kept.parent_orders.Given as goal

-- the orders of the columns before one, and the room that they have taken
abbrev pub invariant-loop-column : goal.invariant-loop-column
invariant-loop-column l = record {
  count : length l.parents.items ≡ l.column;
  kept : AreAllParentOrders l.plan l.table l.parents.items;
  entries : sum_by entries_of_parent l.parents.items + l.room.entries ≡ l.fn.room.entries;
}
