use Rattle.std.proofs.Common.{◌≡◌, map, take}
use Rattle.line_pages.specs.Pieces.{piece_text}
use Rattle.draw_values.specs.Runs.{with_behind}
use Rattle.draw_values.proofs.kept.word_pieces.Given as goal

abbrev pub invariant-loop-i : goal.invariant-loop-i
invariant-loop-i l = map piece_text l.pieces.items ≡ map (with_behind l.behind) (take l.i l.words.entries)
