use Rattle.life_intervals.proofs.KeyLemmas.{key_of-one_to_one, key_of-from_base, key_of-within}
use Rattle.life_intervals.proofs.laws.keys_are_distinct.Goals as goal

pub returns : goal.returns
returns c = record { its_own = key_of-one_to_one; from_base = key_of-from_base; within = key_of-within }
