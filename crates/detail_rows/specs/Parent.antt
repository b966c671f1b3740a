-- The lines of the rows of the parent, as they are kept.
use Rattle.std.specs.Prelude.{◌≡◌, ◌<◌, ℕ, length}
use Rattle.detail_plan.specs.Kept.{KeepsRules}
use Rattle.detail_lines.specs.Lines.{parent_place}
use Rattle.detail_lines.specs.Made.{LinesOver}

-- the rules hold, the lines are those of the detail table, and the parent is the table at a place
pub record AreParentLines (over lines : LinesOver) (table : ℕ) : Type 0 where
  pub keeps : KeepsRules over.plan over.kept
  pub lines_are : lines ≡ over
  pub table_is : table ≡ parent_place over.plan over.kept.detail
  pub within : table < length over.plan.schema.tables
