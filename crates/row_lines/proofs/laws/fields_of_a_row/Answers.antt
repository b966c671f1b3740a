use Rattle.std.proofs.Common.{refl, ◌∙◌}
use Rattle.row_lines.specs.Lines.{field}
use Rattle.row_lines.proofs.FieldLemmas.{draws_of-born, draws_of-changed, field-born, field-changed, field-date, field-drawn, field-in_turn, field-key, field-template, part_text-cited}
use Rattle.row_lines.proofs.LookupLemmas.{lookup-field}
use Rattle.life_intervals.proofs.HeldParentLemmas.{held_parent-cascades}
use Rattle.row_lines.proofs.PaddedLemmas.{unpadded}
use Rattle.row_lines.proofs.ReferenceFieldLemmas.{field-reference}
use Rattle.row_lines.proofs.laws.fields_of_a_row.Goals as goal

pub returns : goal.returns
returns c = record {
  key = field-key;
  born = field-born;
  changed = field-changed;
  date = field-date;
  in_turn = field-in_turn;
  drawn = field-drawn;
  reference = field-reference;
  lookup = lookup-field;
  never_lost = held_parent-cascades;
  template = field-template;
  text = λ generator place row bytes. refl;
  cited = λ generator unit place column row cited. part_text-cited generator unit place column row cited 0 ∙ unpadded (field generator unit place row column);
  padded = part_text-cited;
  drawn_at_change = draws_of-changed;
  drawn_at_birth = draws_of-born;
}
