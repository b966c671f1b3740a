use Rattle.table_jobs.proofs.SampleLemmas.{sample-due}
use Rattle.table_jobs.proofs.modes.sample.plan_sample.Goals as goal

pub returns-in-Ok-summary-clause-job : goal.returns-in-Ok-summary-clause-job
returns-in-Ok-summary-clause-job g c =
    sample-due c.in-Ok.plan c.args.request.now c.is_past_room.result c.in-Ok-summary.text.items c.in-Ok.ensures c.is_past_room.ensures c.if-is_past_room.false
    c.in-Ok-summary.ensures
