use Rattle.range_workers.proofs.MarkLemmas.{all_texts}
use Rattle.range_workers.proofs.laws.due_files_have_all_texts.Goals as goal

pub returns : goal.returns
returns c = all_texts
