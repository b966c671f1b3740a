use Rattle.std.proofs.Common.{◌≡◌, sum, map, take}
use Rattle.schema_facts.specs.Capped.{capped}
use Rattle.schema_facts.specs.Counts.{count}
use Rattle.schema_check.proofs.leaf_rules.total.Given as goal

abbrev pub invariant-loop-weight : goal.invariant-loop-weight
invariant-loop-weight l = l.total ≡ capped (sum (map count (take l.weight-index l.weights)))
