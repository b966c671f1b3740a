use Rattle.std.proofs.Common.{arith}
use Rattle.run_jobs.proofs.AskedLemmas.{reach-few, reach-some}
use Rattle.run_jobs.proofs.asked.asked.Goals as goal

pub asked_by-requires-clause-some_byte : goal.asked_by-requires-clause-some_byte
asked_by-requires-clause-some_byte c = omega (arith, c.reach.ensures, reach-some c.args.plan.now c.schema-limits.ensures.limits)

pub asked_by-requires-clause-byte_limit : goal.asked_by-requires-clause-byte_limit
asked_by-requires-clause-byte_limit c = omega (arith, c.reach.ensures, reach-few c.args.plan.now c.schema-limits.ensures.limits)

pub returns-clause-job : goal.returns-clause-job
returns-clause-job c = c.asked_by.ensures.job (omega (arith, c.reach.ensures, reach-few c.args.plan.now c.schema-limits.ensures.limits))
