use Rattle.std.proofs.Common.{◌≡◌, ℕ, ◌<◌, [], get_or, map, decimal}
use Rattle.line_pages.specs.Pieces.{piece_text}
use Rattle.draw_values.specs.Runs.{with_behind}
use Rattle.draw_values.proofs.run_pieces.fill_units.Given as goal

abbrev pub invariant-loop-i : goal.invariant-loop-i
invariant-loop-i l = record {
  texts : (k : ℕ) → k < l.i → get_or (map piece_text l.pieces) k [] ≡ with_behind l.behind (decimal (get_or l.units k 0));
  made : piece_text l.made ≡ with_behind l.behind (decimal l.unit);
}
