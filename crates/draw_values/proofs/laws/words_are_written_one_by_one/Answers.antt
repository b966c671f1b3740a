use Rattle.draw_values.proofs.CharacterLemmas.{escaped_text-drawn_words}
use Rattle.draw_values.proofs.laws.words_are_written_one_by_one.Goals as goal

pub returns : goal.returns
returns c = escaped_text-drawn_words
