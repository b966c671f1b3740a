use Rattle.row_text.proofs.LawLemmas.{escaped_text-same, escaped_text-null}
use Rattle.row_text.proofs.laws.text_can_be_read_back.Goals as goal

pub returns : goal.returns
returns c = record { text = escaped_text-same; null = escaped_text-null }
