use Rattle.life_intervals.proofs.ParentsLiveLemmas.{is_live-parents}
use Rattle.life_intervals.proofs.laws.rows_live_while_their_parents_do.Goals as goal

pub returns : goal.returns
returns c = λ units generator sound place below unit ordinal within born. is_live-parents units generator sound place below unit ordinal within born
