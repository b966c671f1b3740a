use Rattle.std.proofs.Common.{◌≤◌, ◌+◌, ◌/◌, ◌∷◌, ℕ, [], decimal, length, length-append, ap, arith}
use Rattle.std.proofs.lemmas.Fmt.{length-decimal-le}
use Rattle.line_pages.specs.Pieces.{piece_text}
use Rattle.draw_values.proofs.DigitLemmas.{length-fraction}
use Rattle.draw_values.proofs.ShortNumberLemmas.{length-before_short_point}
use Rattle.draw_values.proofs.fixed.pointed_piece.Goals as goal
use Rattle.draw_values.proofs.fixed.pointed_piece.Goals.{After-prepend}

pub returns-then-decimals-eq0-clause-size : goal.returns-then-decimals-eq0-clause-size
returns-then-decimals-eq0-clause-size c =
    omega (
      arith,
      ap length c.piece.ensures,
      length-append (decimal c.args.number) (c.args.behind ∷ []),
      length-decimal-le 13 c.args.number (omega arith) c.requires.short (omega arith),
    )

pub prepend-requires : goal.prepend-requires
prepend-requires c =
    omega (arith, length-fraction c.args.decimals c.args.number _ _ c.last_before-fraction.ensures (ap length c.of_byte.ensures), c.requires.decimals)

all_fit : (c : After-prepend) → length (decimal c.quotient.result) + length (piece_text c.prepend.result) ≤ 15
all_fit c =
    omega (
      arith,
      ap length c.prepend.ensures,
      length-fraction c.args.decimals c.args.number _ _ c.last_before-fraction.ensures (ap length c.of_byte.ensures),
      ap (λ (n : ℕ). length (decimal n)) c.quotient.ensures,
      ap (λ (unit : ℕ). length (decimal (c.args.number / unit))) c.requires.unit,
      length-before_short_point c.args.decimals c.args.number c.requires.decimals c.requires.short,
    )

pub before-requires-clause-room : goal.before-requires-clause-room
before-requires-clause-room c = omega (arith, all_fit (goal.at.before-requires-clause-room c).After-prepend)

pub returns-clause-size : goal.returns-clause-size
returns-clause-size c =
    omega (
      arith,
      ap length c.before-2.ensures,
      length-append (decimal c.quotient.result) (piece_text c.prepend.result),
      all_fit (goal.at.returns-clause-size c).After-prepend,
    )
