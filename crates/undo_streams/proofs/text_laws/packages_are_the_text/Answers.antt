use Rattle.undo_streams.proofs.PackageLemmas.{packages-whole}
use Rattle.undo_streams.proofs.text_laws.packages_are_the_text.Goals as goal

pub returns : goal.returns
returns c = packages-whole
