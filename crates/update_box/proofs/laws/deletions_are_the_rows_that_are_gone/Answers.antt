use Rattle.update_box.proofs.StepLemmas.{deleted-gone}
use Rattle.update_box.proofs.laws.deletions_are_the_rows_that_are_gone.Goals as goal

pub returns : goal.returns
returns c = λ plan limits place below t some within. deleted-gone plan limits place below t some within
