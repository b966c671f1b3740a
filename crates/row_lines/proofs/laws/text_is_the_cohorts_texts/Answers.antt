use Rattle.row_lines.proofs.LineLemmas.{table_text-text_before, text_before-add_one, text_before-zero}
use Rattle.row_lines.proofs.laws.text_is_the_cohorts_texts.Goals as goal

pub returns : goal.returns
returns c = record { none = text_before-zero; next = text_before-add_one; all = table_text-text_before }
