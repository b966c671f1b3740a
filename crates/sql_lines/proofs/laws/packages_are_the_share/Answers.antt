use Rattle.sql_lines.proofs.ShareLemmas.{part-packages}
use Rattle.sql_lines.proofs.laws.packages_are_the_share.Goals as goal

pub returns : goal.returns
returns c = part-packages
