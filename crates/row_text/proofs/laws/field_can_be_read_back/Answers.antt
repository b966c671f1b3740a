use Rattle.row_text.proofs.LawLemmas.{field_text-same}
use Rattle.row_text.proofs.laws.field_can_be_read_back.Goals as goal

pub returns : goal.returns
returns c = field_text-same
