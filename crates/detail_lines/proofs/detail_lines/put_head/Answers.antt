use Rattle.std.proofs.Common.{◌∷◌, ◌≤◌, ℕ, List, ap, arith, decimal, length, length-append}
use Rattle.std.proofs.lemmas.Fmt.{length-decimal-le}
use Rattle.line_pages.specs.Pages.{Page}
use Rattle.line_pages.specs.Pieces.{piece_text}
use Rattle.row_lines.proofs.FieldLemmas.{length-decimal-le_20}
use Rattle.detail_lines.proofs.detail_lines.put_head.Goals as goal

two_digits : (n : ℕ) → n ≤ 64 → length (decimal n) ≤ 2
two_digits n few = length-decimal-le 2 n (omega arith) (omega arith) (omega arith)

pub put_number-requires : goal.put_number-requires
put_number-requires c = omega (arith, c.requires.room, length-decimal-le_20 c.args.key c.ranges.key.fits)

pub put_piece-requires : goal.put_piece-requires
put_piece-requires c =
    omega (
      arith,
      c.requires.room,
      length-decimal-le_20 c.args.key c.ranges.key.fits,
      ap (λ (page : Page). length page.text) c.put_number.ensures,
      ap (λ (page : Page). page.room) c.put_number.ensures,
      length-append c.args.page.now.text (decimal c.args.key),
      ap (λ (text : List ℕ). length text) c.of_byte.ensures,
    )

pub put_number-requires-2 : goal.put_number-requires-2
put_number-requires-2 c =
    omega (
      arith,
      c.requires.room,
      length-decimal-le_20 c.args.key c.ranges.key.fits,
      two_digits c.args.number c.requires.number,
      ap (λ (page : Page). length page.text) c.put_number.ensures,
      ap (λ (page : Page). page.room) c.put_number.ensures,
      length-append c.args.page.now.text (decimal c.args.key),
      ap (λ (text : List ℕ). length text) c.of_byte.ensures,
      ap (λ (page : Page). length page.text) c.put_piece.ensures,
      ap (λ (page : Page). page.room) c.put_piece.ensures,
      length-append c.put_number.new.self.text (piece_text c.of_byte.result),
    )

pub returns-clause-size : goal.returns-clause-size
returns-clause-size c =
    omega (
      arith,
      length-decimal-le_20 c.args.key c.ranges.key.fits,
      two_digits c.args.number c.requires.number,
      length-append (decimal c.args.key) (c.args.delimiter ∷ decimal c.args.number),
    )
