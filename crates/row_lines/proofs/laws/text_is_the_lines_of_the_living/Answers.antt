use Rattle.row_lines.proofs.LineLemmas.{table_text-living}
use Rattle.row_lines.proofs.laws.text_is_the_lines_of_the_living.Goals as goal

pub returns : goal.returns
returns c = table_text-living
