use Rattle.std.proofs.Common.{◌≡◌, ℕ, pos, ◌<◌, [], get_or, map}
use Rattle.line_pages.specs.Pieces.{piece_text}
use Rattle.draw_values.specs.Digits.{signed_pointed}
use Rattle.draw_values.specs.Runs.{with_behind}
use Rattle.draw_values.proofs.run_numbers.fill_numbers.Given as goal

abbrev pub invariant-loop-i : goal.invariant-loop-i
invariant-loop-i l = (k : ℕ) → k < l.i → get_or (map piece_text l.pieces) k [] ≡ with_behind l.behind (signed_pointed l.decimals (get_or l.values k (pos 0)))
