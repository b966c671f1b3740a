use Rattle.std.proofs.Common.{◌≡◌, ℕ, ◌<◌, [], get_or, map}
use Rattle.line_pages.specs.Pieces.{piece_text}
use Rattle.draw_values.specs.Runs.{with_behind}
use Rattle.draw_values.proofs.run_pieces.fill_entries.Given as goal

abbrev pub invariant-loop-i : goal.invariant-loop-i
invariant-loop-i l = (k : ℕ) → k < l.i → get_or (map piece_text l.pieces) k [] ≡ with_behind l.behind (get_or l.entries (get_or l.places k 0) [])
