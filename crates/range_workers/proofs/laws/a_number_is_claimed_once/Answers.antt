use Rattle.range_workers.proofs.LawLemmas.{once_in_two}
use Rattle.range_workers.proofs.laws.a_number_is_claimed_once.Goals as goal

pub returns : goal.returns
returns c = once_in_two
