use Rattle.std.proofs.Common.{arith}
use Rattle.run_jobs.proofs.AskedLemmas.{reach-few, reach-some}
use Rattle.run_jobs.proofs.asked.package_of.Goals as goal

pub package_by-requires-clause-some_byte : goal.package_by-requires-clause-some_byte
package_by-requires-clause-some_byte c = omega (arith, c.reach.ensures, reach-some c.args.plan.now c.schema-limits.ensures.limits)

pub package_by-requires-clause-byte_limit : goal.package_by-requires-clause-byte_limit
package_by-requires-clause-byte_limit c = omega (arith, c.reach.ensures, reach-few c.args.plan.now c.schema-limits.ensures.limits)

pub returns-clause-some_line : goal.returns-clause-some_line
returns-clause-some_line c = c.package_by.ensures.some_line (omega (arith, c.reach.ensures, reach-few c.args.plan.now c.schema-limits.ensures.limits))
