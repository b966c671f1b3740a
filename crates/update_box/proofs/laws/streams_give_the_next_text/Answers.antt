use Rattle.update_box.proofs.ApplyLawLemmas.{text-applied, unit-applied, units-applied}
use Rattle.update_box.proofs.laws.streams_give_the_next_text.Goals as goal

pub returns : goal.returns
returns c = record {
  text = λ plan limits place below t within. text-applied plan limits place below t within;
  unit = λ plan limits place below t some within. unit-applied plan limits place below t some within;
  units = λ plan limits place below from count within. units-applied plan limits place below from count within;
}
