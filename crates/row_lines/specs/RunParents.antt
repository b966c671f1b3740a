-- The parents of a run's rows by one reference.
use Rattle.std.specs.Prelude.{◌==◌, ℕ, Bool, false, List, Option, Some, None}
use Rattle.schema_plan.specs.declared.ready.ReadyReference.{ReadyReference}
use Rattle.life_intervals.specs.RunParents.{AreKnownOf, AreParentsOf}
use Rattle.row_lines.specs.Runs.{RunLinesOf}

-- the column of the reference, None where none are found; their ordinals, and the units of their births
pub record ParentsOf : Type 0 where
  pub by : Option ℕ
  pub ordinals : List ℕ
  pub births : List ℕ

-- whether they are by the reference in a column
abbrev pub is_column : Option ℕ → ℕ → Bool
is_column None column = false
is_column (Some by) column = by == column

abbrev pub is_by : ParentsOf → ℕ → Bool
is_by parents column = is_column parents.by column

-- they are the parents of the rows of some ordinals by the reference that is ready in the column at a place
abbrev pub AreParents : RunLinesOf → List ℕ → ℕ → ReadyReference → ParentsOf → Type 0
AreParents lines ordinals column reference parents =
    AreParentsOf lines.plan lines.table lines.unit ordinals column reference parents.ordinals parents.births

-- there is room for as many, and where they are told to be by the reference in a column, they are
abbrev pub AreKnown : RunLinesOf → List ℕ → ParentsOf → Type 0
AreKnown lines ordinals parents = AreKnownOf lines.plan lines.table lines.unit ordinals parents.by parents.ordinals parents.births
