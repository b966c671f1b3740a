use Rattle.std.proofs.Common.{refl}
use Rattle.std.specs.Str.{chars}
use lib.Utf8.{encode}
use Rattle.row_text.specs.Fields.{escaped}
use Rattle.schema_facts.specs.TableFacts.{max_line, reach}
use Rattle.schema_facts.proofs.laws.worked_sizes.Goals as goal

pub returns : goal.returns
unfolding max_line reach chars encode escaped
returns c = record { customer = refl; orders = refl; most = refl; fields = refl; words = refl }
