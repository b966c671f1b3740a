use Rattle.std.proofs.Common.{refl}
use Rattle.life_intervals.specs.Generator.{last_unit}
use Rattle.update_box.specs.TextLaws.{with_last_unit}
use Rattle.update_box.proofs.LastUnitLemmas.{deleted-key_lines}
use Rattle.update_box.proofs.laws.a_longer_run_changes_nothing_earlier.Goals as goal

pub returns : goal.returns
returns c = record {
  states = λ plan last unit. refl;
  texts = λ plan last unit place. refl;
  updates = λ plan last unit place. refl;
  insertions = λ plan last unit place. refl;
  deletions = λ plan last limits place below unit within other_within. deleted-key_lines plan limits place below unit within (last_unit (with_last_unit plan last)) (last_unit plan) other_within within;
}
