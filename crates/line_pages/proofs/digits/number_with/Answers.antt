use Rattle.std.proofs.Common.{◌/◌, ◌%◌, ◌≡◌, ℕ, List, [], ◌∷◌, ◌++◌, drop, length, ap, sym, ◌∙◌, append_assoc, length-append, arith}
use Rattle.std.proofs.lemmas.Fmt.{length-decimal-le}
use Rattle.std.specs.Fmt.{decimal}
use Rattle.line_pages.specs.Pieces.{low_bytes, piece_text}
use Rattle.line_pages.specs.declared.piece.Piece.{Piece}
use Rattle.line_pages.specs.Digits.{last_digits}
use Rattle.line_pages.proofs.LastDigits.{decimal-split, last_eight, length-last_digits}
use Rattle.line_pages.proofs.digits.number_with.Goals as goal

pub then-requires-clause-some : goal.then-requires-clause-some
then-requires-clause-some c = omega (arith, c.short_piece.ensures.short)

low : (number digits end : ℕ) (piece : Piece) → low_bytes 8 digits ≡ last_digits 8 (number % 100000000) →
    piece_text piece ≡ drop 0 (low_bytes 8 digits) ++ end ∷ [] → piece_text piece ≡ last_digits 8 number ++ end ∷ []
low number digits end piece eight is = is ∙ ap (λ (front : List ℕ). front ++ end ∷ []) (eight ∙ last_eight number)

pub then-requires-clause-room : goal.then-requires-clause-room
then-requires-clause-room c =
    let high = c.args.number / 100000000 in
    let last = c.args.end ∷ [] in
    omega (
      arith,
      ap length c.short_piece.ensures.text,
      length-decimal-le 7 high (omega arith) (omega arith) (omega arith),
      ap length (low c.args.number c.eight_digits.result c.args.end c.of_last_bytes_with-low.result c.eight_digits.ensures c.of_last_bytes_with-low.ensures),
      length-append (last_digits 8 c.args.number) last,
      length-last_digits 8 c.args.number,
    )

pub returns : goal.returns
returns c =
    let high = c.args.number / 100000000 in
    let last = c.args.end ∷ [] in
    c.then.ensures
    ∙ ap (λ (front : List ℕ). front ++ piece_text c.of_last_bytes_with-low.result) c.short_piece.ensures.text
    ∙ ap (λ (back : List ℕ). decimal high ++ back) (low c.args.number c.eight_digits.result c.args.end c.of_last_bytes_with-low.result c.eight_digits.ensures c.of_last_bytes_with-low.ensures)
    ∙ sym (append_assoc (decimal high) (last_digits 8 c.args.number) last)
    ∙ ap (λ (digits : List ℕ). digits ++ last) (sym (decimal-split 8 c.args.number c.if-number-lt-LONG.false (omega arith)))
