use Rattle.update_box.proofs.StepLemmas.{updated-ordinals}
use Rattle.update_box.proofs.laws.updates_are_the_living_whose_change_unit_it_is.Goals as goal

pub returns : goal.returns
returns c = λ plan limits place below t some within. updated-ordinals plan limits place below t within
