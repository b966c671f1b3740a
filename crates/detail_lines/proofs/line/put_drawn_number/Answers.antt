use Rattle.std.proofs.Common.{rules, ◌≡◌, ℕ, w64, to_z, of_z, ap, length, arith}
use Rattle.std.specs.Fmt.{signed_decimal}
use Rattle.draw_values.specs.Values.{number_text}
use Rattle.detail_lines.specs.Shown.{number_size}
use Rattle.detail_lines.proofs.line.put_drawn_number.Goals as goal

pub put_whole-requires : goal.put_whole-requires
put_whole-requires c = omega (arith, c.requires.room, ap number_size c.if-number-eq0.true)

pub returns-then-number-eq0-clause-size : goal.returns-then-number-eq0-clause-size
returns-then-number-eq0-clause-size c =
    let same : to_z w64 (of_z w64 c.args.number.value) ≡ c.args.number.value = search rules in
    omega (
      arith,
      c.put_whole.ensures.size,
      ap (λ value. length (signed_decimal value)) same,
      ap (λ (digits : ℕ). length (number_text (record { value = c.args.number.value; decimals = digits }))) c.if-number-eq0.true,
      ap number_size c.if-number-eq0.true,
    )
