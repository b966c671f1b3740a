use Rattle.std.proofs.Common.{◌≡◌, ◌<◌, ◌≤◌, ℕ, get_or, length}
use Rattle.detail_lines.specs.Lines.{layout_beside, lines_of_draw}
use Rattle.detail_lines.proofs.detail_lines.DetailLines.put_counts_of.Given as goal

abbrev pub invariant-loop-draw : goal.invariant-loop-draw
invariant-loop-draw l = record {
  counted : (k : ℕ) → k < l.draw-index → get_or l.draws k 0 ≡ lines_of_draw (layout_beside l.self.plan l.self.kept) (get_or l.initial.draws k 0);
  kept : (k : ℕ) → l.draw-index ≤ k → k < length l.initial.draws → get_or l.draws k 0 ≡ get_or l.initial.draws k 0;
}
