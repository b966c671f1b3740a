use Rattle.std.proofs.Common.{◌<◌, ◌^◌, ℕ, ℤ, get_or, pos, ap, ◌∙◌, arith}
use Rattle.std.specs.Prelude.{unsigned_abs}
use Rattle.std.proofs.Math.Nat.{one-le-pow}
use Rattle.draw_values.specs.Digits.{signed_pointed}
use Rattle.draw_values.specs.Runs.{with_behind}
use Rattle.draw_values.proofs.PieceLemmas.{text-written}
use Rattle.draw_values.proofs.ShortNumberLemmas.{back}
use Rattle.draw_values.proofs.run_numbers.fill_numbers.Goals as goal

pub new-unit-requires : goal.new-unit-requires
new-unit-requires c = omega (arith, c.pow.ensures, one-le-pow c.args.decimals 10 (omega arith))

pub loop-i-preserved : goal.loop-i-preserved
loop-i-preserved c =
    let value : ℤ = get_or c.args.values.now c.loop-i.i (pos 0) in
    let short : unsigned_abs value < 10 ^ 13 = c.requires.short c.loop-i.i (omega (arith, c.requires.lengths, c.loop-i-test.true)) in
    text-written (λ (k : ℕ). with_behind c.args.behind (signed_pointed c.args.decimals (get_or c.args.values.now k (pos 0)))) c.loop-i.pieces c.loop-i.i c.fixed_piece.result (omega arith) c.loop-i.invariant
    (c.fixed_piece.ensures
    ∙ ap (λ (number : ℤ). with_behind c.args.behind (signed_pointed c.args.decimals number)) (back value (omega (arith, short))))
