use Rattle.range_workers.proofs.LawLemmas.{round_whole}
use Rattle.range_workers.proofs.laws.a_round_is_claimed_whole.Goals as goal

pub returns : goal.returns
returns c = round_whole
