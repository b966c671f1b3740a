use Rattle.pdgf_run.proofs.RevertAfterLemmas.{reverted-after}
use Rattle.pdgf_run.proofs.laws.reverting_after_applying_gives_the_text_that_was.Goals as goal

pub returns : goal.returns
returns c = reverted-after
