use Rattle.std.proofs.Common.{arith, ◌∙◌}
use Rattle.life_intervals.specs.CohortParents.{deal_by, window_by}
use Rattle.life_intervals.proofs.KeptLemmas.{IsKeptByUnit-all, kept-at, kept-more}
use Rattle.life_intervals.proofs.kept.kept_deals.Goals as goal

pub push_deal-requires-clause-window : goal.push_deal-requires-clause-window
push_deal-requires-clause-window c =
    c.index-windows-unit.is
    ∙ kept-at (window_by c.args.plan.now c.args.reference.now) c.args.windows.now c.loop-unit.unit c.index-windows-unit.result c.requires.windows (omega (arith, c.loop-unit-test.true))

pub loop-unit-preserved : goal.loop-unit-preserved
loop-unit-preserved c = record {
  orders = kept-more (deal_by c.args.plan.now c.args.table c.args.column c.args.reference.now) c.loop-unit.kept.orders _ c.loop-unit.unit c.loop-unit.invariant.orders c.in_ok-push_deal.ensures.deal;
  entries = omega (arith, c.loop-unit.invariant.entries, c.in_ok-push_deal.ensures.entries);
}

pub returns-clause-kept : goal.returns-clause-kept
returns-clause-kept c = IsKeptByUnit-all (deal_by c.args.plan.now c.args.table c.args.column c.args.reference.now) c.loop-unit.kept.orders c.loop-unit.unit c.loop-unit.invariant.orders
