use Rattle.std.proofs.Common.{◌≡◌, ℕ, ◌<◌, ◌≤◌, false, get_or, if◌then◌else◌}
use Rattle.line_pages.specs.Pieces.{piece_text}
use Rattle.line_pages.specs.Rows.{piece_text_at}
use Rattle.row_lines.proofs.run_columns.put_nulls.Given as goal

abbrev pub invariant-loop-i : goal.invariant-loop-i
invariant-loop-i l = record {
  before : (k : ℕ) → k < l.i → piece_text_at l.pieces k ≡ (if get_or l.held k false then piece_text_at l.fn.pieces k else piece_text l.null);
  behind : (k : ℕ) → l.i ≤ k → piece_text_at l.pieces k ≡ piece_text_at l.fn.pieces k;
}
