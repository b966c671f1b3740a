use Rattle.std.proofs.Common.{◌≡◌, take}
use Rattle.schema_facts.specs.FieldSizes.{greatest_by}
use Rattle.schema_facts.proofs.facts.greatest_line.Given as goal

abbrev pub invariant-loop-fact : goal.invariant-loop-fact
invariant-loop-fact l = l.most ≡ greatest_by (λ fact. fact.max_line) (take l.fact-index l.facts)
