use Rattle.std.proofs.Common.{◌≤◌, ◌+◌, ◌*◌, length}
use Rattle.schema_facts.specs.Lineage.{one_if}
use Rattle.life_intervals.specs.CohortOrders.{do_lives_differ}
use Rattle.life_intervals.specs.Ends.{AreEarlier}
use Rattle.life_intervals.specs.Generator.{table_of}
use Rattle.life_intervals.specs.RunParents.{AreKnownOf}
use Rattle.life_intervals.proofs.CohortParentLemmas.{cost_before}
use Rattle.life_intervals.proofs.EndLemmas.{death_before}
use Rattle.life_intervals.proofs.rows.Rows.+ends.Given as goal

-- a parent's table is an earlier one
abbrev pub decreases-put_parents_ends : goal.decreases-put_parents_ends
decreases-put_parents_ends g l = 3 * l.table

abbrev pub decreases-put_drawn_ends : goal.decreases-put_drawn_ends
decreases-put_drawn_ends g l = 3 * l.table + 1

abbrev pub decreases-put_ends : goal.decreases-put_ends
decreases-put_ends g l = 3 * l.table + 2

-- the deaths by own lives and by the parents by the references before a column, and what these have cost
abbrev pub invariant-put_drawn_ends-loop-column : goal.invariant-put_drawn_ends-loop-column
invariant-put_drawn_ends-loop-column g l = record {
  ends : AreEarlier (death_before l.self l.table l.column) l.ordinals l.fn.ends l.ends;
  known : AreKnownOf l.self l.table l.t l.ordinals l.by l.parents l.parents_births;
  steps : l.steps ≤ l.fn.steps + length l.ordinals * (one_if (do_lives_differ (table_of l.self l.table).life) + cost_before (record { plan = l.self; table = l.table; unit = 0 }) l.column);
}
