use Rattle.stream_apply.proofs.ChainLemmas.{in-turn}
use Rattle.stream_apply.proofs.laws.calls_in_turn_apply_a_unit.Goals as goal

pub returns : goal.returns
returns c = in-turn
