use Rattle.std.proofs.Common.{◌≡◌, ℕ, ◌<◌, [], get_or, map, pos, ◌+ℤ◌}
use Rattle.std.specs.Fmt.{signed_decimal}
use Rattle.line_pages.specs.Pieces.{piece_text}
use Rattle.draw_values.specs.Runs.{with_behind}
use Rattle.draw_values.specs.Values.{chosen_group}
use Rattle.draw_values.proofs.run_pieces.fill_skewed.Given as goal

abbrev pub invariant-loop-i : goal.invariant-loop-i
invariant-loop-i l = (k : ℕ) → k < l.i → get_or (map piece_text l.pieces) k [] ≡ with_behind l.behind (signed_decimal (l.lo +ℤ pos (chosen_group l.weights (get_or l.draws k 0))))
