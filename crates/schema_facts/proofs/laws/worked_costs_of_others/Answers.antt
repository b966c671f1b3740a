use Rattle.std.proofs.Common.{refl}
use Rattle.schema_facts.specs.ColumnFacts.{column_facts}
use Rattle.schema_facts.specs.Lineage.{lineages}
use Rattle.schema_facts.specs.TableFacts.{line_cost}
use Rattle.schema_facts.proofs.laws.worked_costs_of_others.Goals as goal

pub returns : goal.returns
unfolding lineages line_cost column_facts
returns c = record { customer = refl; orders = refl; counted = refl; doubled = refl; lines = refl; number_lines = refl }
