use Rattle.std.proofs.Common.{◌≡◌, ◌<◌, ℕ, false, get_or}
use Rattle.detail_lines.specs.LineRuns.{IsDrawnAt}
use Rattle.detail_lines.proofs.detail_lines.DetailLines.can_be_mixed.Given as goal

abbrev pub invariant-loop-column : goal.invariant-loop-column
invariant-loop-column l = (k : ℕ) → k < l.column → get_or l.made k false ≡ false → IsDrawnAt l.self k
