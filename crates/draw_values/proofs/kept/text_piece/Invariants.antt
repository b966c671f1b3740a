use Rattle.std.proofs.Common.{◌≡◌, ◌-◌, ◌++◌, ◌∷◌, [], drop, length}
use Rattle.line_pages.specs.Pieces.{piece_text}
use Rattle.draw_values.proofs.kept.text_piece.Given as goal

abbrev pub invariant-loop-i : goal.invariant-loop-i
invariant-loop-i l = piece_text l.piece ≡ drop (length l.bytes - l.i) l.bytes ++ l.behind ∷ []
