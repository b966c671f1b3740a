use Rattle.std.proofs.Common.{List, ℕ, drop, ap, sym, ◌∙◌, ◌++◌, ◌∷◌, [], ◌-◌, arith}
use Rattle.line_pages.proofs.LastDigits.{drop-eight, decimal-last_digits}
use Rattle.line_pages.proofs.digits.short_with.Goals as goal

pub returns : goal.returns
returns c =
    let count = c.counted_digits-digits.result.1 in
    c.of_last_bytes_with.ensures
    ∙ ap (λ (digits : List ℕ). digits ++ c.args.end ∷ [])
    (ap (drop (8 - count)) c.counted_digits-digits.ensures.digits
    ∙ drop-eight count c.args.number c.counted_digits-digits.ensures.few
    ∙ sym (decimal-last_digits count c.args.number c.counted_digits-digits.ensures.count (omega arith)))
