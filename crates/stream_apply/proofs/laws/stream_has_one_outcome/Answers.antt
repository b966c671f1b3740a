use Rattle.stream_apply.proofs.OutcomeLemmas.{read-no_fault, one-fault}
use Rattle.stream_apply.proofs.laws.stream_has_one_outcome.Goals as goal

pub returns : goal.returns
returns c = record { read = read-no_fault; first = one-fault }
