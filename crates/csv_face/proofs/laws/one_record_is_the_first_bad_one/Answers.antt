use Rattle.std.proofs.Common.{[]}
use Rattle.csv_face.proofs.BackLemmas.{bad-one}
use Rattle.csv_face.proofs.NamedLemmas.{named-bad_one}
use Rattle.csv_face.proofs.laws.one_record_is_the_first_bad_one.Goals as goal

pub returns-clause-rows : goal.returns-clause-rows
returns-clause-rows c = bad-one []

pub returns-clause-named : goal.returns-clause-named
returns-clause-named c = named-bad_one
