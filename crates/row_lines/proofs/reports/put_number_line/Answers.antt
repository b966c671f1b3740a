use Rattle.std.proofs.Common.{◌++◌, ap, arith, codes, decimal, length, length-append}
use Rattle.line_pages.specs.Pages.{Page}
use Rattle.row_lines.proofs.FieldLemmas.{length-decimal-le_20}
use Rattle.row_lines.proofs.reports.put_number_line.Goals as goal

pub put_number-requires : goal.put_number-requires
put_number-requires c =
    omega (
      arith,
      c.requires,
      length-decimal-le_20 c.args.number c.ranges.number.fits,
      ap (λ (page : Page). length page.text) c.put.ensures,
      ap (λ (page : Page). page.room) c.put.ensures,
      length-append c.args.buf.now.text c.args.label.now,
    )

pub put-requires-2 : goal.put-requires-2
put-requires-2 c =
    omega (
      arith,
      c.requires,
      length-decimal-le_20 c.args.number c.ranges.number.fits,
      ap (λ (page : Page). length page.text) c.put_number.ensures,
      ap (λ (page : Page). page.room) c.put_number.ensures,
      length-append c.put.new.self.text (decimal c.args.number),
      ap (λ (page : Page). length page.text) c.put.ensures,
      ap (λ (page : Page). page.room) c.put.ensures,
      length-append c.args.buf.now.text c.args.label.now,
    )

pub returns-clause-size : goal.returns-clause-size
returns-clause-size c =
    omega (
      arith,
      length-decimal-le_20 c.args.number c.ranges.number.fits,
      length-append c.args.label.now (decimal c.args.number),
      length-append (c.args.label.now ++ decimal c.args.number) (codes "\n"),
    )
