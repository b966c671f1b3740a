use Rattle.std.proofs.Common.{◌<◌, ℕ, get_or, length, pos}
use Rattle.row_lines.proofs.RunTotalLemmas.{IsRowSoFar}
use Rattle.row_lines.proofs.runs.RunLines.join_columns.Given as goal

abbrev pub invariant-loop-place : goal.invariant-loop-place
invariant-loop-place l = record { so_far : (r : ℕ) → r < length l.rows.ordinals.now → IsRowSoFar l.self l.rows l.column l.of l.join l.place-index r (get_or l.totals r (pos 0)) }
