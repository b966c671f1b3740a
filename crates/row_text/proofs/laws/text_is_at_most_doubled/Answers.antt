use Rattle.row_text.proofs.LawLemmas.{length-escaped_text-le}
use Rattle.row_text.proofs.laws.text_is_at_most_doubled.Goals as goal

pub returns : goal.returns
returns c = length-escaped_text-le
