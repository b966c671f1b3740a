use Rattle.std.proofs.Common.{◌≡◌, ◌≤◌, ◌+◌}
use Rattle.life_intervals.specs.Found.{cohort_of_row}
use Rattle.life_intervals.proofs.CohortParentLemmas.{change_before, loss_before}
use Rattle.life_intervals.proofs.rows.Rows.last_loss.Given as goal

-- the last of the change and of the losses by the references before a column, and what these have cost
abbrev pub invariant-loop-column : goal.invariant-loop-column
invariant-loop-column g l = record {
  last : l.last ≡ change_before (cohort_of_row l.self l.table l.row) l.row.index l.change l.t l.column;
  least : l.fn.steps ≤ l.steps;
  most : l.steps ≤ l.fn.steps + loss_before (cohort_of_row l.self l.table l.row) l.column;
}
