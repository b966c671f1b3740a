use Rattle.keeper_play.proofs.PlayedLemmas.{statements-give}
use Rattle.keeper_play.proofs.laws.statements_give_the_rows_of_the_unit.Goals as goal

pub returns : goal.returns
returns c = λ plan limits unit within. statements-give plan limits unit within
