use Rattle.std.proofs.Common.{◌≡◌, ◌+◌, map}
use Rattle.std.specs.List.{range_with_len}
use Rattle.life_intervals.specs.CohortParents.{deal_by}
use Rattle.life_intervals.proofs.kept.kept_deals.Given as goal

-- the orders of the units before one, and the room that they have taken
abbrev pub invariant-loop-unit : goal.invariant-loop-unit
invariant-loop-unit l = record {
  orders : l.kept.orders ≡ map (deal_by l.plan l.table l.column l.reference) (range_with_len 0 l.unit);
  entries : l.kept.entries + l.room.entries ≡ l.fn.room.entries;
}
