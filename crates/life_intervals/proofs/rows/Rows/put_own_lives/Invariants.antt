use Rattle.std.proofs.Common.{◌≡◌, ◌≤◌, ◌+◌, ◌*◌, ◌-◌, length, map, take}
use Rattle.schema_facts.specs.Lineage.{one_if}
use Rattle.life_intervals.specs.CohortOrders.{do_lives_differ}
use Rattle.life_intervals.specs.Generator.{generator_of, table_of}
use Rattle.life_intervals.specs.Intervals.{is_after, own_death}
use Rattle.life_intervals.proofs.rows.Rows.put_own_lives.Given as goal

-- what has been put of the rows before one
abbrev pub invariant-loop-from : goal.invariant-loop-from
invariant-loop-from g l = record {
  within : l.from ≤ length l.births;
  same_length : length l.live ≡ length l.ordinals;
  so_far : take l.from l.live ≡ map (λ j. is_after (own_death (generator_of l.self) l.table l.t j) l.t) (take l.from l.ordinals);
  steps : l.steps ≤ l.fn.steps + l.from * one_if (do_lives_differ (table_of l.self l.table).life);
}

abbrev pub decreases-loop-from : goal.decreases-loop-from
decreases-loop-from g l = length l.births - l.from
