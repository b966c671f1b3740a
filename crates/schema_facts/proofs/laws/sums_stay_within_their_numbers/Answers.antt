use Rattle.schema_facts.proofs.NumberRangeLemmas.{plus-within}
use Rattle.schema_facts.proofs.laws.sums_stay_within_their_numbers.Goals as goal

pub returns : goal.returns
returns c = plus-within
