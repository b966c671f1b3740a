use Rattle.std.proofs.Common.{subst}
use Rattle.std.specs.Prelude.{IfSome}
use Rattle.pd_outside.specs.Library.{AskedPrefixOf}
use Rattle.plan_stages.specs.Stages.{told_files}
use Rattle.detail_plan.specs.declared.detail.Detail.{Detail}
use Rattle.run_jobs.specs.Jobs.{due_of}
use Rattle.run_jobs.specs.Outcome.{IsDecided}
use Rattle.refusals.specs.Statuses.{job_status}
use Rattle.replay_files.specs.modes.DetailsApply.{AreDetailsOf, detail_paths_asked, detail_paths_possible}
use Rattle.replay_files.proofs.DetailsApplyLemmas.{declared_asked, declared_asked_told, declared_decided, declared_unasked, undeclared_asked, undeclared_asked_told}
use Rattle.replay_files.proofs.modes.details_apply.plan_details_apply.Goals as goal

pub returns-in-Ok-clause-job : goal.returns-in-Ok-clause-job
returns-in-Ok-clause-job g c =
    declared_decided (told_files (g.L.Library.content c.args.library.now)) _ c.args.plan.now c.args.request.now c.as_str.result.now c.in-Ok.kept c.apply_inputs.result c.as_str.ensures.value
    c.in-Ok.ensures.detail c.in-Ok.ensures.after.files
    (subst (λ (detail : Detail). IfSome (told_files (g.L.Library.content c.read_details.new.library)) (λ files. IsDecided job_status due_of (AreDetailsOf c.args.plan.now c.args.request.now files detail) c.apply_inputs.result))
    c.detail.ensures.value c.apply_inputs.ensures.job)

pub returns-in-Ok-clause-asked_told : goal.returns-in-Ok-clause-asked_told
returns-in-Ok-clause-asked_told g c =
    declared_asked_told (told_files (g.L.Library.content c.args.library.now)) _ c.args.plan.now c.args.request.now c.as_str.result.now c.in-Ok.kept _ _ _ c.as_str.ensures.value
    c.in-Ok.ensures.detail c.in-Ok.ensures.after.files c.in-Ok.ensures.read
    (subst (λ (detail : Detail). IfSome (told_files (g.L.Library.content c.read_details.new.library)) (λ files.
    AskedPrefixOf (detail_paths_asked c.args.plan.now c.args.request.now files detail) (g.L.Library.asked c.read_details.new.library) (g.L.Library.asked c.apply_inputs.new.library)))
    c.detail.ensures.value c.apply_inputs.ensures.asked_told)

pub returns-in-Ok-clause-asked : goal.returns-in-Ok-clause-asked
returns-in-Ok-clause-asked g c =
    declared_asked c.args.plan.now c.args.request.now c.as_str.result.now _ c.in-Ok.kept _ _ _ c.as_str.ensures.value c.in-Ok.ensures.read
    (subst (λ (detail : Detail).
    AskedPrefixOf (detail_paths_possible c.args.plan.now c.args.request.now detail) (g.L.Library.asked c.read_details.new.library) (g.L.Library.asked c.apply_inputs.new.library))
    c.detail.ensures.value c.apply_inputs.ensures.asked)

pub returns-in-Ok-clause-unasked : goal.returns-in-Ok-clause-unasked
returns-in-Ok-clause-unasked g c = λ none.
    declared_unasked c.args.plan.now c.args.request.now c.as_str.result.now _ c.in-Ok.kept _ _ _ _ _ c.in-Ok.ensures.read
    (subst (λ (detail : Detail).
    AskedPrefixOf (detail_paths_possible c.args.plan.now c.args.request.now detail) (g.L.Library.asked c.read_details.new.library) (g.L.Library.asked c.apply_inputs.new.library))
    c.detail.ensures.value c.apply_inputs.ensures.asked) none

pub returns-in-Err-clause-asked_told : goal.returns-in-Err-clause-asked_told
returns-in-Err-clause-asked_told g c =
    undeclared_asked_told _ c.args.plan.now c.args.request.now c.as_str.result.now _ _ c.as_str.ensures.value c.in-Err.ensures.asked

pub returns-in-Err-clause-asked : goal.returns-in-Err-clause-asked
returns-in-Err-clause-asked g c = undeclared_asked c.args.plan.now c.args.request.now c.as_str.result.now _ _ _ c.as_str.ensures.value c.in-Err.ensures.asked
