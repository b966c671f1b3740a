use Rattle.std.proofs.Common.{List, ℕ, length, ap, sym, ◌≡◌, ◌∙◌, ◌++◌, ◌∷◌, ◌%◌, ◌/◌, ◌+◌, length-append, arith}
use Rattle.line_pages.specs.Pieces.{piece_text}
use Rattle.line_pages.specs.Digits.{last_digits}
use Rattle.line_pages.proofs.LastDigits.{nine-last_digits}
use Rattle.line_pages.proofs.digits.Digits.last_before.Goals as goal

pub then-requires-clause-some : goal.then-requires-clause-some
then-requires-clause-some c = omega (arith, c.last_piece.ensures.length)

pub then-requires-clause-room : goal.then-requires-clause-room
then-requires-clause-room c = omega (arith, c.last_piece.ensures.length)

pub then-requires-2-clause-some : goal.then-requires-2-clause-some
then-requires-2-clause-some c = omega (arith, c.last_piece-2.ensures.length)

pub then-requires-2-clause-room : goal.then-requires-2-clause-room
then-requires-2-clause-room c = omega (arith, c.last_piece-2.ensures.length)

pub prepend-requires : goal.prepend-requires
prepend-requires c =
    omega (arith, c.last_piece-2.ensures.length, ap length c.then-2.ensures, length-append (piece_text c.last_piece-2.result) (piece_text c.args.rest))

pub returns : goal.returns
returns c =
    let rest = piece_text c.args.rest in
    let nine : c.args.count ≡ 9 = omega arith in
    c.prepend.ensures
    ∙ ap (λ (text : List ℕ). (48 + c.args.number / 100000000 % 10) ∷ text)
    (c.then-2.ensures ∙ ap (λ (text : List ℕ). text ++ rest) c.last_piece-2.ensures.text)
    ∙ ap (λ (text : List ℕ). text ++ rest) (sym (nine-last_digits c.args.number))
    ∙ ap (λ (count : ℕ). last_digits count c.args.number ++ rest) (sym nine)
