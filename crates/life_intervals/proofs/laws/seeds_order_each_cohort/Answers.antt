use Rattle.life_intervals.proofs.KeyLemmas.{OrdersCohorts-generator_of}
use Rattle.life_intervals.proofs.laws.seeds_order_each_cohort.Goals as goal

pub returns : goal.returns
returns c = OrdersCohorts-generator_of
