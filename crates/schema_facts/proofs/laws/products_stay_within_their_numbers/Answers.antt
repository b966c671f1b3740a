use Rattle.schema_facts.proofs.NumberRangeLemmas.{times-within}
use Rattle.schema_facts.proofs.laws.products_stay_within_their_numbers.Goals as goal

pub returns : goal.returns
returns c = times-within
