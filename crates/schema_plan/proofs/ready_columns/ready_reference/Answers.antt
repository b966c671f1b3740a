use Rattle.std.proofs.Common.{map, sum, ◌∙◌, arith, ap}
use Rattle.schema_facts.specs.Counts.{count}
use Rattle.schema_facts.proofs.SpreadLemmas.{spread_sum}
use Rattle.schema_plan.proofs.ready_columns.ready_reference.Goals as goal

pub new-requires-clause-small : goal.new-requires-clause-small
new-requires-clause-small c =
    omega (arith, ap sum (c.deref.ensures.value ∙ c.in_ok-counts.ensures), spread_sum (map count c.args.spread.now) c.requires)
