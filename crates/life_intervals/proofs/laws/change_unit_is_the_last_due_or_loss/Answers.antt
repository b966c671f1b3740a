use Rattle.life_intervals.proofs.LifeLemmas.{due_by-none}
use Rattle.life_intervals.proofs.SoundLemmas.{change_unit-last, due_by-last}
use Rattle.life_intervals.proofs.laws.change_unit_is_the_last_due_or_loss.Goals as goal

pub returns : goal.returns
returns c = record { due = due_by-last; never_due = due_by-none; last = change_unit-last }
