use Rattle.std.proofs.Common.{arith}
use Rattle.run_jobs.proofs.AskedLemmas.{reach-few}
use Rattle.table_jobs.proofs.modes.undo.undo_reach.Goals as goal

pub overflow_add-result : goal.overflow_add-result
overflow_add-result c = omega (arith, c.reach.ensures, reach-few c.args.plan.now c.schema-limits.ensures.limits)

pub returns-clause-few : goal.returns-clause-few
returns-clause-few c = omega (arith, c.reach.ensures, reach-few c.args.plan.now c.schema-limits.ensures.limits)
