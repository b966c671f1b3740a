use Rattle.row_text.proofs.DigitLemmas.{escaped_text-decimal}
use Rattle.row_text.proofs.laws.number_is_written_as_its_digits.Goals as goal

pub returns : goal.returns
returns c = escaped_text-decimal
