use Rattle.std.proofs.Common.{◌≡◌, take}
use Rattle.schema_facts.specs.Capped.{capped}
use Rattle.schema_facts.specs.TableFacts.{sum_of_costs}
use Rattle.schema_facts.proofs.facts.sum_of_costs.Given as goal

abbrev pub invariant-loop-facts : goal.invariant-loop-facts
invariant-loop-facts l = l.cost ≡ capped (sum_of_costs (take l.facts-index l.columns))
