use Rattle.life_intervals.proofs.ChildLemmas.{IsInWindow-candidate, parent_of-candidate}
use Rattle.life_intervals.proofs.laws.parents_are_born_in_the_window.Goals as goal

pub returns : goal.returns
returns c = record { candidate = parent_of-candidate; window = IsInWindow-candidate }
