use Rattle.dictionaries.proofs.BoundLemmas.{IsWordList-dictionary_of}
use Rattle.dictionaries.proofs.laws.what_is_read_is_a_word_list.Goals as goal

pub returns : goal.returns
returns c = IsWordList-dictionary_of
