use Rattle.row_lines.specs.Derived.{columns_before}
use Rattle.row_lines.proofs.cohort_fields.CohortFields.+day.Given as goal

-- what is read stands before, in its table or an earlier one
abbrev pub decreases-day : goal.decreases-day
decreases-day g l = columns_before l.self.now.table l.column
