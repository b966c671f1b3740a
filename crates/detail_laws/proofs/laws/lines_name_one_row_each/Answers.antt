use Rattle.detail_lines.proofs.DeclaredLemmas.{delimits}
use Rattle.detail_laws.proofs.NameLemmas.{lines-name}
use Rattle.detail_laws.proofs.laws.lines_name_one_row_each.Goals as goal

pub returns : goal.returns
returns c = λ plan limits kept keeps t within. lines-name plan limits kept keeps (delimits plan) t within
