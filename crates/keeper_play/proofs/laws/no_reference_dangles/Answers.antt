use Rattle.keeper_play.proofs.PlayedLemmas.{no-reference-dangles}
use Rattle.keeper_play.proofs.laws.no_reference_dangles.Goals as goal

pub returns : goal.returns
returns c = λ plan limits unit count within. no-reference-dangles plan limits unit count within
