use Rattle.replay_files.proofs.ApplyLemmas.{can-apply_detail}
use Rattle.replay_files.proofs.modes.details_apply.apply_inputs.Goals as goal

pub replay_files-requires-clause-can : goal.replay_files-requires-clause-can
replay_files-requires-clause-can g c =
    can-apply_detail c.args.plan.now c.schema-limits.ensures.limits c.args.request.now c.args.detail.now c.in-Ok.replay c.in_ok-check_units.ensures.order c.in_ok-check_units.ensures.units c.in-Ok.ensures
