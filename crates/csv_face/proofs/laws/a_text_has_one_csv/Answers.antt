use Rattle.csv_face.proofs.BackLemmas.{csv-one}
use Rattle.csv_face.proofs.laws.a_text_has_one_csv.Goals as goal

pub returns : goal.returns
returns c = csv-one
