use Rattle.std.proofs.Common.{[], ◌∷◌, length}
use Rattle.csv_face.proofs.BackLemmas.{read-one}
use Rattle.csv_face.proofs.NamedLemmas.{named-none_bad, named-read}
use Rattle.csv_face.proofs.laws.named_csv_is_read_back.Goals as goal

pub returns-clause-read : goal.returns-clause-read
returns-clause-read c = named-read

pub returns-clause-one : goal.returns-clause-one
returns-clause-one c delimiter names = read-one (names ∷ []) delimiter (length names)

pub returns-clause-none_bad : goal.returns-clause-none_bad
returns-clause-none_bad c = named-none_bad
