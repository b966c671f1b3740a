use Rattle.pdgf_run.proofs.ModeLemmas.{asks_nothing}
use Rattle.pdgf_run.proofs.decide.task_of.Goals as goal

pub returns-in_err-plan_play-in-Play-clause-asked : goal.returns-in_err-plan_play-in-Play-clause-asked
returns-in_err-plan_play-in-Play-clause-asked g c = asks_nothing c.args.request.now c.args.plan _ _

pub returns-in_ok-plan_play-in-Play-clause-asked : goal.returns-in_ok-plan_play-in-Play-clause-asked
returns-in_ok-plan_play-in-Play-clause-asked g c = asks_nothing c.args.request.now c.args.plan _ _
