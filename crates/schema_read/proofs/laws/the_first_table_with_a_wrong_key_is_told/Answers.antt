use Rattle.schema_read.proofs.FirstWrong.{each_from-first}
use Rattle.schema_read.proofs.laws.the_first_table_with_a_wrong_key_is_told.Goals as goal

pub returns : goal.returns
returns c = each_from-first
