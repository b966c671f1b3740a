use Rattle.std.proofs.Common.{refl}
use Rattle.schema_facts.specs.ColumnFacts.{column_facts}
use Rattle.schema_facts.proofs.laws.worked_days.Goals as goal

pub returns : goal.returns
unfolding column_facts
returns c = record { due = refl; before_year_1 = refl; past_year_9999 = refl }
