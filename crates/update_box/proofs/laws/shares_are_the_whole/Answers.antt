use Rattle.update_box.proofs.ShareLawLemmas.{share-alone, shares-whole}
use Rattle.update_box.proofs.laws.shares_are_the_whole.Goals as goal

pub returns-clause-joined : goal.returns-clause-joined
returns-clause-joined c = shares-whole

pub returns-clause-alone : goal.returns-clause-alone
returns-clause-alone c = share-alone
