use Rattle.std.proofs.Common.{arith}
use Rattle.line_pages.proofs.DigitCount.{above, eight-counted}
use Rattle.line_pages.proofs.digits.counted_digits.Goals as goal

pub overflow_sub-zeros : goal.overflow_sub-zeros
overflow_sub-zeros c = above 7 c.args.number c.eight_digits-digits.result (omega arith) c.eight_digits-digits.ensures

pub returns-clause-count : goal.returns-clause-count
returns-clause-count c = eight-counted c.args.number c.eight_digits-digits.result c.requires.number (omega arith) c.eight_digits-digits.ensures
