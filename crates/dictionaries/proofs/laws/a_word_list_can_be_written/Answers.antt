use Rattle.dictionaries.proofs.WrittenLemmas.{dictionary_of-written_list}
use Rattle.dictionaries.proofs.laws.a_word_list_can_be_written.Goals as goal

pub returns : goal.returns
returns c = dictionary_of-written_list
