use Rattle.undo_streams.proofs.TurnOutcomeLemmas.{one-revert_fault, one-reverted, reverted-no_fault}
use Rattle.undo_streams.proofs.laws.inputs_have_one_outcome.Goals as goal

pub returns : goal.returns
returns c = record {
  made = λ delimiter inputs text other delimits. one-reverted delimiter delimits inputs text other;
  none = λ delimiter inputs text place fault delimits. reverted-no_fault delimiter delimits inputs text place fault;
  first = λ delimiter inputs place other_place fault other delimits. one-revert_fault delimiter delimits inputs place other_place fault other;
}
