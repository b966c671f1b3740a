use Rattle.life_intervals.specs.CohortOrders.{parent_order}
use Rattle.life_intervals.specs.CohortParents.{deal_by, window_by}
use Rattle.life_intervals.proofs.KeptLemmas.{IsKeptByUnit-none}
use Rattle.life_intervals.proofs.kept.ParentOrders.none.Goals as goal

pub returns-clause-kept : goal.returns-clause-kept
returns-clause-kept c = λ plan table column. record {
  orders = IsKeptByUnit-none (parent_order plan table column) _ c.new.ensures.none;
  windows = λ reference of. IsKeptByUnit-none (window_by plan reference) _ c.new-2.ensures.items;
  deals = λ reference of. IsKeptByUnit-none (deal_by plan table column reference) _ c.new-3.ensures.none;
}
