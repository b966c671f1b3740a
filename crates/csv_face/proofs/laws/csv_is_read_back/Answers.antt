use Rattle.std.proofs.Common.{[]}
use Rattle.csv_face.proofs.BackLemmas.{csv_text-read, read-none_bad, read-one}
use Rattle.csv_face.proofs.laws.csv_is_read_back.Goals as goal

pub returns-clause-read : goal.returns-clause-read
returns-clause-read c delimiter fields rows text delimits copy begins = csv_text-read delimiter delimits fields rows text copy begins

pub returns-clause-one : goal.returns-clause-one
returns-clause-one c = read-one []

pub returns-clause-none_bad : goal.returns-clause-none_bad
returns-clause-none_bad c = read-none_bad []
