use Rattle.std.proofs.Common.{◌≤◌, ◌+◌, ◌-◌, ◌*◌, length}
use Rattle.schema_facts.specs.Lineage.{one_if}
use Rattle.life_intervals.specs.CohortOrders.{do_lives_differ}
use Rattle.life_intervals.specs.Generator.{generator_of, last_unit, table_of}
use Rattle.life_intervals.specs.Intervals.{own_death}
use Rattle.life_intervals.proofs.EndLemmas.{AreEarlierBefore}
use Rattle.life_intervals.proofs.rows.Rows.put_own_ends.Given as goal

-- what has been put of the rows before one
abbrev pub invariant-loop-from : goal.invariant-loop-from
invariant-loop-from g l = record {
  within : l.from ≤ length l.births;
  ends : AreEarlierBefore (own_death (generator_of l.self) l.table (last_unit l.self)) l.ordinals l.fn.ends l.ends l.from;
  steps : l.steps ≤ l.fn.steps + l.from * one_if (do_lives_differ (table_of l.self l.table).life);
}

abbrev pub decreases-loop-from : goal.decreases-loop-from
decreases-loop-from g l = length l.births - l.from
