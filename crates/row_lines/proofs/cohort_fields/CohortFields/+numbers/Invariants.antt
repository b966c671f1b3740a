use Rattle.std.proofs.Common.{◌≤◌, ◌+◌, ◌*◌, sum_by, take}
use Rattle.schema_facts.specs.ColumnFacts.{field_cost}
use Rattle.schema_facts.specs.Layout.{layout_of}
use Rattle.row_lines.specs.Derived.{columns_before}
use Rattle.row_lines.proofs.TotalLemmas.{IsSoFar}
use Rattle.row_lines.proofs.cohort_fields.CohortFields.+numbers.Given as goal

-- what is read stands before, in its table or an earlier one
abbrev pub decreases-total : goal.decreases-total
decreases-total g l = 2 * columns_before l.self.now.table l.column

abbrev pub decreases-number : goal.decreases-number
decreases-number g l = 2 * columns_before l.self.now.table l.column + 1

-- the operands before one, and what they have cost
abbrev pub invariant-total-loop-operand : goal.invariant-total-loop-operand
invariant-total-loop-operand g l = record {
  so_far : IsSoFar l.self l.index l.values.changed l.column l.of l.join l.operand-index l.total;
  steps : l.steps ≤ l.fn.steps + sum_by (field_cost (layout_of l.self.plan) l.self.table) (take l.operand-index l.of);
}
