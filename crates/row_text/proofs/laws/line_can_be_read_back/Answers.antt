use Rattle.row_text.proofs.ReadLemmas.{IsLineBody-same}
use Rattle.row_text.proofs.laws.line_can_be_read_back.Goals as goal

pub returns : goal.returns
returns c = λ delimiter fields others bytes delimits. IsLineBody-same delimiter delimits fields others bytes
