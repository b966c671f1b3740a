use Rattle.stream_apply.proofs.InTurnLemmas.{made-no_fault, one-first, one-made}
use Rattle.stream_apply.proofs.laws.inputs_have_one_outcome.Goals as goal

pub returns : goal.returns
returns c = record { made = one-made; none = made-no_fault; first = one-first }
