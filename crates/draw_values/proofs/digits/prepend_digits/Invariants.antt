use Rattle.std.proofs.Common.{◌≡◌, ◌+◌, ◌-◌, ◌++◌, length}
use Rattle.line_pages.specs.Pieces.{piece_text}
use Rattle.line_pages.specs.Digits.{last_digits}
use Rattle.draw_values.proofs.digits.prepend_digits.Given as goal

abbrev pub invariant-loop : goal.invariant-loop
invariant-loop l = record {
  text : last_digits (l.count - l.counter) l.rest ++ piece_text l.piece ≡ last_digits l.count l.number ++ piece_text l.fn.piece;
  length : length (piece_text l.piece) ≡ l.counter + length (piece_text l.fn.piece);
}
