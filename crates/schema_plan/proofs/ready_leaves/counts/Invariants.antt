use Rattle.std.proofs.Common.{◌≡◌, map, take}
use Rattle.schema_facts.specs.Counts.{count}
use Rattle.schema_plan.proofs.ready_leaves.counts.Given as goal

abbrev pub invariant-loop-number : goal.invariant-loop-number
invariant-loop-number l = l.counts.items ≡ map count (take l.number-index l.numbers)
