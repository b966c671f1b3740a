use Rattle.row_lines.proofs.FieldLemmas.{key_line-field}
use Rattle.row_lines.proofs.laws.key_line_is_the_key_field.Goals as goal

pub returns : goal.returns
returns c = key_line-field
