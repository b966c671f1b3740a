use Rattle.std.proofs.Common.{ℕ, ◌/◌, List, ◌++◌, length, ap, sym, ◌∙◌, append_assoc, length-append, arith}
use Rattle.std.specs.Fmt.{decimal}
use Rattle.line_pages.specs.Pieces.{piece_text}
use Rattle.line_pages.specs.Digits.{last_digits}
use Rattle.line_pages.proofs.LastDigits.{decimal-split, length-split}
use Rattle.line_pages.proofs.digits.number_before.Goals as goal

pub then-requires-clause-some : goal.then-requires-clause-some
then-requires-clause-some c = omega (arith, c.short_piece.ensures.short)

pub then-low-requires-clause-some : goal.then-low-requires-clause-some
then-low-requires-clause-some c = omega (arith, c.last_piece.ensures.length)

pub then-low-requires-clause-room : goal.then-low-requires-clause-room
then-low-requires-clause-room c =
    omega (arith, c.last_piece.ensures.length, length-split 8 c.args.number c.if-number-lt-LONG.false (omega arith))

pub then-requires-2-clause-some : goal.then-requires-2-clause-some
then-requires-2-clause-some c = omega (arith, c.short_piece-2.ensures.short)

pub then-requires-2-clause-room : goal.then-requires-2-clause-room
then-requires-2-clause-room c =
    omega (
      arith,
      ap length c.then-low.ensures,
      length-append (piece_text c.last_piece.result) (piece_text c.args.rest),
      c.last_piece.ensures.length,
      ap length c.short_piece-2.ensures.text,
      length-split 8 c.args.number c.if-number-lt-LONG.false (omega arith),
    )

pub returns : goal.returns
returns c =
    let rest = piece_text c.args.rest in
    let high = c.args.number / 100000000 in
    c.then-2.ensures
    ∙ ap (λ (front : List ℕ). front ++ piece_text c.then-low.result) c.short_piece-2.ensures.text
    ∙ ap (λ (back : List ℕ). decimal high ++ back) (c.then-low.ensures ∙ ap (λ (low : List ℕ). low ++ rest) c.last_piece.ensures.text)
    ∙ sym (append_assoc (decimal high) (last_digits 8 c.args.number) rest)
    ∙ ap (λ (digits : List ℕ). digits ++ rest) (sym (decimal-split 8 c.args.number c.if-number-lt-LONG.false (omega arith)))
