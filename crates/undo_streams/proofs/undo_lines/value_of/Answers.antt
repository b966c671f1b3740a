use Rattle.std.proofs.Common.{ℕ, ◌+◌, ◌*◌, arith, ap, ◌∙◌}
use Rattle.std.specs.Str.Parse.{digits_value}
use Rattle.std.proofs.lemmas.List.{take_all}
use Rattle.undo_streams.proofs.DigitLemmas.{digit_within, value_more, value_small}
use Rattle.undo_streams.proofs.undo_lines.value_of.Goals as goal

pub overflow_mul-value : goal.overflow_mul-value
overflow_mul-value c = omega (arith, c.loop-digit.invariant, value_small c.args.digits.now c.requires.digits c.requires.few c.loop-digit.digit-index)

pub overflow_sub-digit : goal.overflow_sub-digit
overflow_sub-digit c = omega (arith, digit_within c.args.digits.now c.requires.digits c.loop-digit.digit-index c.loop-digit-test.true)

pub overflow_add-value : goal.overflow_add-value
overflow_add-value c =
    omega (
      arith,
      c.from.ensures,
      c.loop-digit.invariant,
      value_small c.args.digits.now c.requires.digits c.requires.few c.loop-digit.digit-index,
      (digit_within c.args.digits.now c.requires.digits c.loop-digit.digit-index c.loop-digit-test.true).1,
    )

pub loop-digit-preserved : goal.loop-digit-preserved
loop-digit-preserved c =
    ap (λ (d : ℕ). c.loop-digit.value * 10 + d) c.from.ensures
    ∙ value_more c.args.digits.now c.requires.digits c.loop-digit.digit-index c.loop-digit.value c.loop-digit-test.true c.loop-digit.invariant

pub returns : goal.returns
returns c = c.loop-digit.invariant ∙ ap (digits_value 10) (take_all c.loop-digit.digit-index c.args.digits.now (omega arith))
