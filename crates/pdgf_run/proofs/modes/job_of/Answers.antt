use Rattle.pdgf_run.proofs.ModeLemmas.{apply_asks, asks_nothing, revert_asks}
use Rattle.pdgf_run.proofs.modes.job_of.Goals as goal

pub returns-in-Check-clause-asked : goal.returns-in-Check-clause-asked
returns-in-Check-clause-asked g c = asks_nothing c.args.request.now c.args.plan _ _

pub returns-in-Snapshot-clause-asked : goal.returns-in-Snapshot-clause-asked
returns-in-Snapshot-clause-asked g c = asks_nothing c.args.request.now c.args.plan _ _

pub returns-in-Unit-clause-asked : goal.returns-in-Unit-clause-asked
returns-in-Unit-clause-asked g c = asks_nothing c.args.request.now c.args.plan _ _

pub returns-in-Row-clause-asked : goal.returns-in-Row-clause-asked
returns-in-Row-clause-asked g c = asks_nothing c.args.request.now c.args.plan _ _

pub returns-in-Apply-clause-asked : goal.returns-in-Apply-clause-asked
returns-in-Apply-clause-asked g c =
    apply_asks c.args.request.now c.args.plan _ _ _ c.in-Apply.is c.plan_apply.ensures.asked_told c.plan_apply.ensures.asked

pub returns-in-Undo-clause-asked : goal.returns-in-Undo-clause-asked
returns-in-Undo-clause-asked g c = asks_nothing c.args.request.now c.args.plan _ _

pub returns-in-Revert-clause-asked : goal.returns-in-Revert-clause-asked
returns-in-Revert-clause-asked g c =
    revert_asks c.args.request.now c.args.plan _ _ _ c.in-Revert.is c.plan_revert.ensures.asked_told c.plan_revert.ensures.asked
