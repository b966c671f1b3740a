use Rattle.std.proofs.Common.{List, ℕ, drop, length, ap, ◌∙◌, ◌-◌}
use Rattle.line_pages.proofs.LastDigits.{drop-eight, last_eight, length-last_digits}
use Rattle.line_pages.proofs.digits.last_piece.Goals as goal

pub returns-clause-text : goal.returns-clause-text
returns-clause-text c =
    c.of_last_bytes.ensures
    ∙ ap (λ (digits : List ℕ). drop (8 - c.args.count) digits) (c.eight_digits.ensures ∙ last_eight c.args.number)
    ∙ drop-eight c.args.count c.args.number c.requires.few

pub returns-clause-length : goal.returns-clause-length
returns-clause-length c =
    ap length
    (c.of_last_bytes.ensures
    ∙ ap (λ (digits : List ℕ). drop (8 - c.args.count) digits) (c.eight_digits.ensures ∙ last_eight c.args.number)
    ∙ drop-eight c.args.count c.args.number c.requires.few)
    ∙ length-last_digits c.args.count c.args.number
