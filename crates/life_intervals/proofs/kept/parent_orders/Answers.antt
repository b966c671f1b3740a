use Rattle.std.proofs.Common.{◌≡◌, ◌+◌, ap, arith, subst, sym}
use Rattle.life_intervals.specs.declared.kept.ParentOrders.{ParentOrders}
use Rattle.life_intervals.specs.declared.kept.Room.{Room}
use Rattle.life_intervals.specs.JobOrders.{AreParentOrders, entries_of_parent}
use Rattle.life_intervals.proofs.KeptLemmas.{each-more, sum_by-more}
use Rattle.life_intervals.proofs.kept.parent_orders.Goals as goal
use Rattle.life_intervals.proofs.kept.parent_orders.Goals.{in-Reference+in_ok-kept-in-Reference, in_default}

pub loop-column-preserved : goal.loop-column-preserved
loop-column-preserved c =
    let plan = c.args.plan.now in
    let kept : ParentOrders = c.match-ready.kept in
    let are : AreParentOrders plan c.args.table c.loop-column.column kept × (entries_of_parent kept + c.match-ready.room.entries ≡ c.loop-column.room.entries) = elim c.match-ready.branch [
      | in-Reference+in_ok-kept-in-Reference w ↦ (
        subst (AreParentOrders plan c.args.table c.loop-column.column) (sym w.kept-is) w.in_ok-kept-in-Reference.ensures.kept,
        omega (arith, ap entries_of_parent w.kept-is, ap (λ (room : Room). room.entries) w.room-is, w.in_ok-kept-in-Reference.ensures.entries),
      )
      | in_default w ↦ (
        subst (AreParentOrders plan c.args.table c.loop-column.column) (sym w.kept-is) (w.none-kept.ensures.kept plan c.args.table c.loop-column.column),
        omega (arith, ap entries_of_parent w.kept-is, ap (λ (room : Room). room.entries) w.room-is, w.none-kept.ensures.entries),
      )
    ] in
    record {
      count = omega (arith, c.in_ok-push.ensures.len, c.loop-column.invariant.count);
      kept = each-more (AreParentOrders plan c.args.table) c.loop-column.parents.items _ kept c.loop-column.column c.loop-column.invariant.count c.in_ok-push.ensures.items c.loop-column.invariant.kept are.0;
      entries = omega (arith, sum_by-more entries_of_parent c.loop-column.parents.items _ kept c.in_ok-push.ensures.items, are.1, c.loop-column.invariant.entries);
    }
