use Rattle.std.proofs.Common.{◌≡◌, ℕ, ◌<◌, [], get_or, map}
use Rattle.line_pages.specs.Pieces.{piece_text}
use Rattle.draw_values.proofs.run_loops.fill_kept.Given as goal

abbrev pub invariant-loop-i : goal.invariant-loop-i
invariant-loop-i l = (k : ℕ) → k < l.i → get_or (map piece_text l.pieces) k [] ≡ get_or (map piece_text l.kept) (get_or l.numbers k 0) []
