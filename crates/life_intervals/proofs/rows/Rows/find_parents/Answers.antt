use Rattle.std.proofs.Common.{◌<◌, get_or, length, arith, subst}
use Rattle.cohort_sizes.proofs.CohortLemmas.{born_count-le}
use Rattle.schema_plan.specs.Limits.{IsInLimits}
use Rattle.life_intervals.specs.Generator.{table_of}
use Rattle.life_intervals.proofs.CohortParentLemmas.{parent_below}
use Rattle.life_intervals.proofs.rows.Rows.find_parents.Goals as goal

pub put_births-requires-clause-table : goal.put_births-requires-clause-table
put_births-requires-clause-table g c =
    parent_below c.args.self.now (subst IsInLimits c.plan.ensures c.schema-limits.ensures.limits) c.args.table c.args.column c.args.reference.now c.requires.table c.requires.reference

pub put_births-requires-clause-rows : goal.put_births-requires-clause-rows
put_births-requires-clause-rows g c = λ i below.
    let inside : i < length c.args.ordinals.now = omega (arith, below, c.put_parents.ensures.same_length) in
    omega (
      arith,
      c.put_parents.ensures.born i inside,
      born_count-le (table_of c.args.self.now c.args.reference.now.parent).births (get_or c.args.births.now i 0) c.args.t (c.requires.run.born i inside),
    )
