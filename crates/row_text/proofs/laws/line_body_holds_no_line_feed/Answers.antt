use Rattle.row_text.proofs.ReadLemmas.{IsLineBody-line_feed}
use Rattle.row_text.proofs.laws.line_body_holds_no_line_feed.Goals as goal

pub returns : goal.returns
returns c = λ delimiter fields bytes delimits. IsLineBody-line_feed delimiter delimits fields bytes
