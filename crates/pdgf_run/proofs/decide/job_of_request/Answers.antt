use Rattle.std.proofs.Common.{Ok}
use Rattle.pdgf_run.proofs.DecideLemmas.{asks_nothing, not-alone}
use Rattle.pdgf_run.proofs.decide.job_of_request.Goals as goal

pub returns-in_err-plan_sample-in-Sample-clause-asked : goal.returns-in_err-plan_sample-in-Sample-clause-asked
returns-in_err-plan_sample-in-Sample-clause-asked g c = asks_nothing (Ok c.args.request.now) _ _

pub returns-in_ok-plan_sample-in-Sample-clause-longer_schema : goal.returns-in_ok-plan_sample-in-Sample-clause-longer_schema
returns-in_ok-plan_sample-in-Sample-clause-longer_schema g c = λ alone. absurd (not-alone _ _ alone)

pub returns-in_ok-plan_sample-in-Sample-clause-asked : goal.returns-in_ok-plan_sample-in-Sample-clause-asked
returns-in_ok-plan_sample-in-Sample-clause-asked g c = asks_nothing (Ok c.args.request.now) _ _
