use Rattle.row_lines.proofs.LineLemmas.{table_text-front}
use Rattle.row_lines.proofs.laws.text_so_far_begins_the_text.Goals as goal

pub returns : goal.returns
returns c = table_text-front
