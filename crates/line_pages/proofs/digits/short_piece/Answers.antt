use Rattle.std.proofs.Common.{drop, length, ap, sym, ◌∙◌, ◌-◌, ◌≡◌, arith}
use Rattle.line_pages.specs.Pieces.{piece_text}
use Rattle.line_pages.specs.Digits.{last_digits}
use Rattle.line_pages.proofs.LastDigits.{drop-eight, decimal-last_digits, length-last_digits}
use Rattle.line_pages.proofs.digits.short_piece.Goals as goal

pub returns-clause-text : goal.returns-clause-text
returns-clause-text c =
    let count = c.counted_digits-digits.result.1 in
    c.of_last_bytes.ensures
    ∙ ap (drop (8 - count)) c.counted_digits-digits.ensures.digits
    ∙ drop-eight count c.args.number c.counted_digits-digits.ensures.few
    ∙ sym (decimal-last_digits count c.args.number c.counted_digits-digits.ensures.count (omega arith))

pub returns-clause-short : goal.returns-clause-short
returns-clause-short c =
    let count = c.counted_digits-digits.result.1 in
    let is : piece_text c.of_last_bytes.result ≡ last_digits count c.args.number =
    c.of_last_bytes.ensures
    ∙ ap (drop (8 - count)) c.counted_digits-digits.ensures.digits
    ∙ drop-eight count c.args.number c.counted_digits-digits.ensures.few
    in
    omega (arith, ap length is, length-last_digits count c.args.number, c.counted_digits-digits.ensures.few)
