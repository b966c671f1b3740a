use Rattle.keeper_play.proofs.PlayedLemmas.{held-give, no-reference-of_rows_dangles}
use Rattle.keeper_play.proofs.laws.rows_of_a_unit_can_be_put_at_once.Goals as goal

pub returns : goal.returns
returns c = record {
  none_dangles = λ plan limits unit count within. no-reference-of_rows_dangles plan limits unit count within;
  rows = λ plan limits unit within. held-give plan limits unit within;
}
