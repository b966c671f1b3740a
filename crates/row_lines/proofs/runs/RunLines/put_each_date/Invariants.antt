use Rattle.std.proofs.Common.{◌≡◌, ◌<◌, ◌≤◌, ◌+◌, ◌*◌, ℕ, [], get_or, length, map}
use Rattle.line_pages.specs.Pieces.{piece_text}
use Rattle.row_lines.specs.RunFields.{asked_for, size_for}
use Rattle.row_lines.specs.Runs.{text_at, text_behind}
use Rattle.row_lines.proofs.RowOfRunLemmas.{of_unit}
use Rattle.row_lines.proofs.runs.RunLines.put_each_date.Given as goal

abbrev pub invariant-loop-row : goal.invariant-loop-row
invariant-loop-row g l = record {
  lines : l.lines ≡ of_unit l.self l.lines.born;
  text : (k : ℕ) → k < l.row → get_or (map piece_text l.pieces) k [] ≡ text_behind l.self (get_or l.rows.ordinals.now k 0) l.column;
  size : (k : ℕ) → k < l.row → length (text_at l.self (get_or l.rows.ordinals.now k 0) l.column) ≤ size_for l.self l.column;
  steps : l.steps ≤ l.fn.steps + l.row * asked_for l.self l.column;
}
