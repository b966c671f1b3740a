use Rattle.stream_apply.proofs.InTurnLemmas.{one-unit}
use Rattle.stream_apply.proofs.laws.one_unit_in_turn.Goals as goal

pub returns : goal.returns
returns c = one-unit
