use Rattle.std.proofs.Common.{◌≡◌, map, take}
use Rattle.line_pages.specs.Pieces.{piece_text}
use Rattle.draw_values.proofs.kept.bare_words.Given as goal

abbrev pub invariant-loop-i : goal.invariant-loop-i
invariant-loop-i l = map piece_text l.pieces.items ≡ take l.i l.words.entries
