use Rattle.life_intervals.proofs.HeldParentLemmas.{parents-held}
use Rattle.life_intervals.proofs.laws.parents_are_held.Goals as goal

pub returns : goal.returns
returns c = parents-held
