use Rattle.life_intervals.specs.Generator.{generator_of, last_unit}
use Rattle.life_intervals.proofs.AcceptedLemmas.{AreSound-accepted, place-below}
use Rattle.life_intervals.proofs.HeldParentLemmas.{parents-held}
use Rattle.update_box.proofs.KeyLineLemmas.{cascades-held, line-held, parent-kept}
use Rattle.update_box.proofs.laws.references_name_one_line_each.Goals as goal

pub returns : goal.returns
returns c = record {
  held = λ plan limits place below unit ordinal within. parents-held (last_unit plan) (generator_of plan) (AreSound-accepted plan limits) place (place-below plan place below) unit ordinal within;
  cascades = λ plan limits place below unit ordinal within. cascades-held plan limits unit within place below ordinal;
  line = λ plan limits place below unit within. line-held plan limits unit within place below;
  kept = λ plan limits place below unit within. parent-kept plan limits unit within place;
}
