use Rattle.std.proofs.Common.{◌/◌, ◌%◌, ◌∙◌, ap, arith}
use Rattle.line_pages.specs.Pieces.{low_bytes}
use Rattle.line_pages.proofs.LastDigits.{eight_bytes}
use Rattle.line_pages.proofs.digits.eight_digits.Goals as goal

pub returns : goal.returns
returns c =
    let high = c.args.number / 10000 in
    let low = c.args.number % 10000 in
    let each = c.requires.fours.each in
    eight_bytes c.args.number c.from-high.result c.from-low.result (omega (arith, c.from-high.ensures, c.type_inv.fours high))
    (ap (low_bytes 4) c.from-high.ensures ∙ each high (omega arith)) (ap (low_bytes 4) c.from-low.ensures ∙ each low (omega arith))
