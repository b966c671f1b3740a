use Rattle.std.proofs.Common.{◌≡◌, ◌<◌, ◌≤◌, ◌+◌, ◌++◌, ℕ, flat_map, get_or, length, sum_by}
use Rattle.std.specs.List.{range_with_len}
use Rattle.row_lines.specs.RunFields.{asked_long, size_for}
use Rattle.row_lines.specs.Runs.{text_at, text_behind}
use Rattle.row_lines.proofs.runs.RunLines.put_mixed_line.Given as goal

abbrev pub invariant-loop-column : goal.invariant-loop-column
invariant-loop-column g l = record {
  text : l.page ≡ record { text = l.fn.page.text ++ flat_map (text_behind l.self (get_or l.rows.ordinals.now l.row 0)) (range_with_len 0 l.column); room = l.fn.page.room };
  sizes : (k : ℕ) → k < l.column → length (text_at l.self (get_or l.rows.ordinals.now l.row 0) k) ≤ size_for l.self k;
  steps : l.steps ≤ l.fn.steps + sum_by (asked_long l.self) (range_with_len 0 l.column);
}
