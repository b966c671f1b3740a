use Rattle.life_intervals.proofs.ParentsLiveLemmas.{held_parent-live}
use Rattle.life_intervals.proofs.laws.parents_are_held_while_they_live.Goals as goal

pub returns : goal.returns
returns c = λ units generator sound place below unit ordinal within born. held_parent-live units generator sound place below unit ordinal within born
