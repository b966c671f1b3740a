use Rattle.std.proofs.Common.{refl}
use Rattle.weight_tables.specs.Weights.{selected}
use Rattle.life_intervals.proofs.laws.worked_choices.Goals as goal

pub returns : goal.returns
unfolding selected
returns c = refl
