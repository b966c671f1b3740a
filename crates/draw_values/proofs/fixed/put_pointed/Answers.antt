use Rattle.std.proofs.Common.{◌/◌, ℕ, decimal, length, length-append, ap, arith}
use Rattle.line_pages.specs.Pages.{Page}
use Rattle.draw_values.proofs.DigitLemmas.{length-before_point, length-pointed}
use Rattle.draw_values.proofs.fixed.put_pointed.Goals as goal

pub put_number-requires : goal.put_number-requires
put_number-requires c =
    omega (
      arith,
      ap (λ (n : ℕ). length (decimal n)) c.quotient.ensures,
      ap (λ (unit : ℕ). length (decimal (c.args.number / unit))) c.requires.unit,
      length-before_point c.args.decimals c.args.number c.requires.decimals c.requires.number,
      c.requires.room,
    )

pub put_piece-requires : goal.put_piece-requires
put_piece-requires c =
    omega (
      arith,
      ap (λ (page : Page). length page.text) c.put_number.ensures,
      ap (λ (page : Page). page.room) c.put_number.ensures,
      length-append c.args.buf.now.text (decimal c.quotient.result),
      ap (λ (n : ℕ). length (decimal n)) c.quotient.ensures,
      ap (λ (unit : ℕ). length (decimal (c.args.number / unit))) c.requires.unit,
      length-before_point c.args.decimals c.args.number c.requires.decimals c.requires.number,
      c.fraction.ensures.length,
      c.requires.room,
    )

pub returns-then-decimals-gt0-clause-size : goal.returns-then-decimals-gt0-clause-size
returns-then-decimals-gt0-clause-size c = length-pointed c.args.decimals c.args.number c.requires.decimals c.requires.number

pub returns-else-decimals-gt0-clause-size : goal.returns-else-decimals-gt0-clause-size
returns-else-decimals-gt0-clause-size c = length-pointed c.args.decimals c.args.number c.requires.decimals c.requires.number
