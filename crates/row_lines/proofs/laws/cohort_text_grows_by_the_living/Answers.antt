use Rattle.std.proofs.Common.{refl}
use Rattle.row_lines.proofs.LineLemmas.{first_lines-add_one, first_lines-all, first_lines-zero}
use Rattle.row_lines.proofs.laws.cohort_text_grows_by_the_living.Goals as goal

pub returns : goal.returns
returns c = record {
  none = first_lines-zero;
  next = first_lines-add_one;
  all = λ generator unit place born. first_lines-all generator unit place born _ refl;
}
