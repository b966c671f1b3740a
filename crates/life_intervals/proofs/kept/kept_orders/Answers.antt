use Rattle.std.proofs.Common.{length, ap, arith}
use Rattle.std.proofs.lemmas.List.FromFn.{length-map-range_with_len}
use Rattle.life_intervals.specs.CohortOrders.{order_for}
use Rattle.life_intervals.proofs.KeptLemmas.{IsKeptByUnit-all, kept-more}
use Rattle.life_intervals.proofs.kept.kept_orders.Goals as goal

pub loop-unit-preserved : goal.loop-unit-preserved
loop-unit-preserved c = record {
  orders = kept-more (order_for c.args.plan.now c.args.table c.args.purpose) c.loop-unit.kept.orders _ c.loop-unit.unit c.loop-unit.invariant.orders c.in_ok-push_order.ensures.order;
  entries = omega (arith, c.loop-unit.invariant.entries, c.in_ok-push_order.ensures.entries);
}

pub returns-clause-kept : goal.returns-clause-kept
returns-clause-kept c = IsKeptByUnit-all (order_for c.args.plan.now c.args.table c.args.purpose) c.loop-unit.kept.orders c.loop-unit.unit c.loop-unit.invariant.orders

pub returns-clause-count : goal.returns-clause-count
returns-clause-count c =
    omega (
      arith,
      ap length c.loop-unit.invariant.orders,
      length-map-range_with_len (order_for c.args.plan.now c.args.table c.args.purpose) 0 c.loop-unit.unit,
      c.loop-unit.auto.unit-end,
    )
