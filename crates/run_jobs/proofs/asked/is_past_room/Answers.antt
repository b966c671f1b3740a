use Rattle.std.proofs.Common.{arith}
use Rattle.run_jobs.proofs.AskedLemmas.{reach-few}
use Rattle.run_jobs.proofs.asked.is_past_room.Goals as goal

pub is_past_pages-requires-clause-byte_limit : goal.is_past_pages-requires-clause-byte_limit
is_past_pages-requires-clause-byte_limit c = omega (arith, c.reach.ensures, reach-few c.args.plan.now c.schema-limits.ensures.limits)
