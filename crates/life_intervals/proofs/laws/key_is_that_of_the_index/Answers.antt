use Rattle.life_intervals.proofs.KeyLemmas.{key_of-first_ordinal}
use Rattle.life_intervals.proofs.laws.key_is_that_of_the_index.Goals as goal

pub returns : goal.returns
returns c = key_of-first_ordinal
