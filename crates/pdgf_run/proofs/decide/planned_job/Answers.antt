use Rattle.std.proofs.lemmas.Result.{err_from_is_err_and}
use Rattle.pdgf_run.proofs.DecideLemmas.{asks_of_name, asks_with_plan, decided_with_plan, decided_without_plan, left_with_plan, left_without_plan, limits_with_plan, limits_without_plan}
use Rattle.pdgf_run.proofs.decide.planned_job.Goals as goal

pub returns-in_err-plan-clause-job : goal.returns-in_err-plan-clause-job
returns-in_err-plan-clause-job g c =
    let made = err_from_is_err_and c.from_residual.result c.from_residual.ensures.1 in
    rw (made.1, made.2) (decided_without_plan _ c.args.request.now c.as_str.result.now c.in_err-plan.field-0.0 c.as_str.ensures.value c.in_err-plan.ensures.plan)

pub returns-in_err-plan-clause-left : goal.returns-in_err-plan-clause-left
returns-in_err-plan-clause-left g c =
    let made = err_from_is_err_and c.from_residual.result c.from_residual.ensures.1 in
    rw (made.1, made.2) (left_without_plan c.in_err-plan.field-0.0 _ _ _ _ _ _ c.in_err-plan.ensures.after)

pub returns-in_err-plan-clause-asked : goal.returns-in_err-plan-clause-asked
returns-in_err-plan-clause-asked g c = asks_of_name c.args.request.now c.as_str.result.now _ _ _ c.requires.reads c.as_str.ensures.value c.in_err-plan.ensures.asked

pub returns-clause-job : goal.returns-clause-job
returns-clause-job g c =
    decided_with_plan _ _ c.args.request.now c.as_str.result.now c.in_ok-plan.plan c.task_of.result c.as_str.ensures.value c.in_ok-plan.ensures.plan
    c.in_ok-plan.ensures.after.files c.task_of.ensures.job

pub returns-clause-left : goal.returns-clause-left
returns-clause-left g c = left_with_plan _ _ _ _ _ _ _ _ _ _ _ _ _ c.in_ok-plan.ensures.after c.task_of.ensures.left

pub returns-clause-asked : goal.returns-clause-asked
returns-clause-asked g c =
    asks_with_plan c.args.request.now c.as_str.result.now c.in_ok-plan.plan _ _ _ _ _ c.requires.reads c.as_str.ensures.value c.in_ok-plan.ensures.plan c.in_ok-plan.ensures.named c.in_ok-plan.ensures.read
    c.in_ok-plan.ensures.after.files c.task_of.ensures.asked

pub returns-in_err-plan-clause-limits : goal.returns-in_err-plan-clause-limits
returns-in_err-plan-clause-limits g c =
    let made = err_from_is_err_and c.from_residual.result c.from_residual.ensures.1 in
    rw (made.1, made.2) (limits_without_plan _ c.args.request.now c.as_str.result.now c.in_err-plan.field-0.0 c.as_str.ensures.value c.in_err-plan.ensures.plan)

pub returns-clause-limits : goal.returns-clause-limits
returns-clause-limits g c = λ free.
    limits_with_plan _ c.args.request.now c.as_str.result.now c.in_ok-plan.plan c.as_str.ensures.value c.in_ok-plan.ensures.plan c.schema-limits.ensures.limits
