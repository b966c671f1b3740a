use Rattle.schema_read.proofs.FirstWrong.{document-first}
use Rattle.schema_read.proofs.laws.the_first_wrong_key_of_a_document_is_told.Goals as goal

pub returns : goal.returns
returns c = document-first
