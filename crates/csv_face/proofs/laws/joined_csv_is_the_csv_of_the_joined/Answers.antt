use Rattle.csv_face.proofs.JoinLemmas.{copy-joined, csv-joined}
use Rattle.csv_face.proofs.laws.joined_csv_is_the_csv_of_the_joined.Goals as goal

pub returns-clause-copy : goal.returns-clause-copy
returns-clause-copy c = copy-joined

pub returns-clause-csv : goal.returns-clause-csv
returns-clause-csv c = csv-joined
