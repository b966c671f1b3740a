use Rattle.life_intervals.proofs.CohortParentLemmas.{parent_below}
use Rattle.life_intervals.proofs.kept.ParentOrders.of_reference.Goals as goal

pub windows_of-requires-clause-parent : goal.windows_of-requires-clause-parent
windows_of-requires-clause-parent c =
    parent_below c.args.plan.now c.schema-limits.ensures.limits c.args.table c.args.column c.args.reference.now c.requires.table c.requires.reference
