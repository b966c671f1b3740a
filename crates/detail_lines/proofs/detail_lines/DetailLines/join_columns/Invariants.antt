use Rattle.std.proofs.Common.{◌<◌, ℕ, get_or, pos}
use Rattle.detail_lines.specs.LineRuns.{line_of}
use Rattle.detail_lines.proofs.LineTotalLemmas.{IsLineSoFar}
use Rattle.detail_lines.proofs.detail_lines.DetailLines.join_columns.Given as goal

abbrev pub invariant-loop-place : goal.invariant-loop-place
invariant-loop-place l = record { so_far : (k : ℕ) → k < l.count → IsLineSoFar (line_of l.self l.at.unit l.run k) l.column l.of l.join l.place-index (get_or l.totals k (pos 0)) }
