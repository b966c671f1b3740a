use Rattle.std.proofs.Common.{ℤ, w64, ap, length, arith}
use Rattle.std.specs.Fmt.{signed_decimal}
use Rattle.std.proofs.lemmas.Fmt.{length_signed_le}
use Rattle.std.proofs.lemmas.Int.{to_z-of_z}
use Rattle.detail_lines.proofs.line.put_whole.Goals as goal

pub returns-clause-size : goal.returns-clause-size
returns-clause-size c = length_signed_le 19 c.args.value (omega (arith, c.ranges.value.sfits)) c.ranges.value.sfits

pub put_signed-requires : goal.put_signed-requires
put_signed-requires c =
    omega (
      arith,
      ap (λ (value : ℤ). length (signed_decimal value)) (to_z-of_z w64 c.args.value c.ranges.value),
      length_signed_le 19 c.args.value (omega (arith, c.ranges.value.sfits)) c.ranges.value.sfits,
      c.requires,
    )
