use Rattle.std.proofs.Common.{◌≡◌, ℕ, ◌<◌, [], get_or, map}
use Rattle.std.specs.Fmt.{signed_decimal}
use Rattle.line_pages.specs.Pieces.{piece_text}
use Rattle.draw_values.specs.Runs.{with_behind}
use Rattle.draw_values.specs.Values.{chosen}
use Rattle.draw_values.proofs.run_pieces.fill_whole.Given as goal

abbrev pub invariant-loop-i : goal.invariant-loop-i
invariant-loop-i l = (k : ℕ) → k < l.i → get_or (map piece_text l.pieces) k [] ≡ with_behind l.behind (signed_decimal (chosen l.lo l.hi l.step (get_or l.draws k 0)))
