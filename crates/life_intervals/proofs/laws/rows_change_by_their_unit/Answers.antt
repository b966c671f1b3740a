use Rattle.life_intervals.proofs.SoundLemmas.{rows-changed}
use Rattle.life_intervals.proofs.laws.rows_change_by_their_unit.Goals as goal

pub returns : goal.returns
returns c = rows-changed
