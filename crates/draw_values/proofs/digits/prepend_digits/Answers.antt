use Rattle.std.proofs.Common.{◌≡◌, ℕ, ◌+◌, ◌-◌, ◌/◌, ◌++◌, length, ap, ◌∙◌, arith}
use Rattle.line_pages.specs.Pieces.{piece_text}
use Rattle.line_pages.specs.Digits.{last_digits}
use Rattle.draw_values.proofs.DigitLemmas.{all_moved, digit_moves}
use Rattle.draw_values.proofs.digits.prepend_digits.Goals as goal

pub loop-preserved : goal.loop-preserved
loop-preserved c =
    let fewer : c.args.count - (c.loop.counter + 1) ≡ c.args.count - c.loop.counter - 1 = omega arith in
    record {
      text = ap (λ (left : ℕ). last_digits left (c.loop.rest / 10) ++ piece_text c.prepend-piece.result) fewer
          ∙ digit_moves (c.args.count - c.loop.counter) c.loop.rest _ _ _ (omega arith) c.loop.invariant.text c.prepend-piece.ensures;
      length = omega (arith, ap length c.prepend-piece.ensures);
    }

pub returns-clause-text : goal.returns-clause-text
returns-clause-text c = all_moved (c.args.count - c.loop.counter) c.loop.rest _ _ (omega arith) c.loop.invariant.text
