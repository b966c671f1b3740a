use Rattle.update_box.proofs.KeyLineLemmas.{lines_with_key-held}
use Rattle.update_box.proofs.laws.the_text_has_the_line_of_a_row_that_is_told_live.Goals as goal

pub returns : goal.returns
returns c = λ plan limits place below unit within ordinal. lines_with_key-held plan limits unit within place below ordinal
