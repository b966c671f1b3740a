use Rattle.update_box.proofs.ShareLawLemmas.{packages-whole}
use Rattle.update_box.proofs.laws.packages_are_the_share.Goals as goal

pub returns : goal.returns
returns c = packages-whole
