use Rattle.row_lines.proofs.PartLemmas.{escaped_text-parts}
use Rattle.row_lines.proofs.laws.templates_are_written_part_by_part.Goals as goal

pub returns : goal.returns
returns c = λ generator place row parts. escaped_text-parts generator place row parts
