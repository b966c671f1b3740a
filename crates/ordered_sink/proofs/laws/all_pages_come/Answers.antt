use Rattle.ordered_sink.proofs.CallLemmas.{all_in_order}
use Rattle.ordered_sink.proofs.laws.all_pages_come.Goals as goal

pub returns : goal.returns
returns c = all_in_order
