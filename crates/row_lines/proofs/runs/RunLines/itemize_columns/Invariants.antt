use Rattle.std.proofs.Common.{◌≡◌, ◌<◌, ◌*◌, ℕ, true}
use Rattle.row_lines.specs.RunFields.{AreItemized}
use Rattle.row_lines.specs.TableLines.{column_of}
use Rattle.row_lines.proofs.runs.RunLines.itemize_columns.Given as goal

abbrev pub invariant-loop-column : goal.invariant-loop-column
invariant-loop-column l = (k : ℕ) → k < l.column → (column_of l.self.plan l.self.table k).itemized ≡ true → AreItemized l.self l.rows l.items (k * l.count) k
