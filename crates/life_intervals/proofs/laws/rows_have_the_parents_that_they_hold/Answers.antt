use Rattle.life_intervals.proofs.AcceptedLemmas.{row_at-parents}
use Rattle.life_intervals.proofs.laws.rows_have_the_parents_that_they_hold.Goals as goal

pub returns : goal.returns
returns c = row_at-parents
