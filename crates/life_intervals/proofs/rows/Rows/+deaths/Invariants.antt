use Rattle.std.proofs.Common.{◌≡◌, ◌≤◌, ◌+◌, ◌*◌}
use Rattle.life_intervals.specs.Found.{cohort_of_row}
use Rattle.life_intervals.proofs.CohortParentLemmas.{cost_before, first_before}
use Rattle.life_intervals.proofs.rows.Rows.+deaths.Given as goal

-- a parent's table is an earlier one
abbrev pub decreases-parent_death : goal.decreases-parent_death
decreases-parent_death g l = 4 * l.table

abbrev pub decreases-first_death : goal.decreases-first_death
decreases-first_death g l = 4 * l.table + 1

abbrev pub decreases-found_death : goal.decreases-found_death
decreases-found_death g l = 4 * l.table + 2

abbrev pub decreases-death : goal.decreases-death
decreases-death g l = 4 * l.table + 3

-- the first death of the parents by the references before a column, and what these have cost
abbrev pub invariant-first_death-loop-column : goal.invariant-first_death-loop-column
invariant-first_death-loop-column g l = record {
  first : l.first ≡ first_before (cohort_of_row l.self l.table l.row) l.row.index l.column;
  least : l.fn.steps ≤ l.steps;
  steps : l.steps ≤ l.fn.steps + cost_before (cohort_of_row l.self l.table l.row) l.column;
}
