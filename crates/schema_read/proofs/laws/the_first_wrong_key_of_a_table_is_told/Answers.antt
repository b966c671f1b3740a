use Rattle.schema_read.proofs.FirstWrong.{first_of-first, first_wrong-first}
use Rattle.schema_read.proofs.laws.the_first_wrong_key_of_a_table_is_told.Goals as goal

pub returns : goal.returns
returns c = record { wanted = first_of-first; further = first_wrong-first }
