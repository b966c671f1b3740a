use Rattle.run_jobs.proofs.DetailsLemmas.{kept_read}
use Rattle.run_jobs.proofs.details.kept_in.Goals as goal

pub returns-clause-read : goal.returns-clause-read
returns-clause-read g c =
    kept_read c.args.plan.now c.args.detail _ c.in_ok-lists.lists c.kept_over.result c.in_ok-names.ensures.cited c.in_ok-lists.ensures.named c.kept_over.ensures.kept
