use Rattle.undo_streams.proofs.OutcomeLemmas.{one-fault, one-undone, taken-no_fault}
use Rattle.undo_streams.proofs.laws.undo_text_has_one_outcome.Goals as goal

pub returns : goal.returns
returns c = record {
  made = λ delimiter before bytes after other delimits. one-undone delimiter delimits before bytes after other;
  taken = λ delimiter before bytes after fault delimits. taken-no_fault delimiter delimits before bytes after fault;
  first = λ delimiter before bytes fault other delimits. one-fault delimiter delimits before bytes fault other;
}
