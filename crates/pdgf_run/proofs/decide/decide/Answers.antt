use Rattle.std.proofs.Common.{[], Some, Ok, Err, ap, sym, ◌∙◌}
use Rattle.std.proofs.lemmas.Result.{err_from_is_err_and}
use Rattle.plan_stages.specs.Stages.{told_files}
use Rattle.refusals.specs.Statuses.{done_status, job_status}
use Rattle.pdgf_run.specs.TopCall.{reads_for}
use Rattle.pdgf_run.proofs.DecideLemmas.{asks_nothing, where_asked, asks_of_words, decided_for_request, decided_for_words, left_by_request, left_by_words, limits_of_words}
use Rattle.pdgf_run.proofs.decide.decide.Goals as goal

pub returns-in_err-request-clause-verdict : goal.returns-in_err-request-clause-verdict
returns-in_err-request-clause-verdict g c =
    let made = err_from_is_err_and c.from_residual.result c.from_residual.ensures.1 in
    rw (made.1, made.2) (decided_for_words _ _ _ c.in_err-request.ensures.refused)

pub returns-in_err-request-clause-left : goal.returns-in_err-request-clause-left
returns-in_err-request-clause-left g c =
    let made = err_from_is_err_and c.from_residual.result c.from_residual.ensures.1 in
    rw (made.1, made.2) (left_by_words _ _ _ _ _ _ _)

pub returns-in_err-job_of_request-clause-verdict : goal.returns-in_err-job_of_request-clause-verdict
returns-in_err-job_of_request-clause-verdict g c =
    let made = err_from_is_err_and c.from_residual-in_err-job_of_request.result c.from_residual-in_err-job_of_request.ensures.1 in
    rw (made.1, made.2)
    (decided_for_request _ _ c.in_ok-request.request (Err c.in_err-job_of_request.field-0.0) c.in_ok-request.ensures.read c.in_err-job_of_request.ensures.job)

pub returns-in_err-job_of_request-clause-left : goal.returns-in_err-job_of_request-clause-left
returns-in_err-job_of_request-clause-left g c =
    let made = err_from_is_err_and c.from_residual-in_err-job_of_request.result c.from_residual-in_err-job_of_request.ensures.1 in
    rw (made.1, made.2) (left_by_request _ c.in_ok-request.request (Err c.in_err-job_of_request.field-0.0) _ _ _ _ _ _ c.in_ok-request.ensures.read c.in_err-job_of_request.ensures.left)

pub returns-in_err-job_of_request-clause-asked : goal.returns-in_err-job_of_request-clause-asked
returns-in_err-job_of_request-clause-asked g c = asks_of_words _ c.in_ok-request.request _ _ _ c.in_ok-request.ensures.read c.in_err-job_of_request.ensures.asked

pub returns-clause-verdict : goal.returns-clause-verdict
returns-clause-verdict g c = decided_for_request _ _ c.in_ok-request.request (Ok c.in_ok-job_of_request.field-0) c.in_ok-request.ensures.read c.in_ok-job_of_request.ensures.job

pub returns-clause-left : goal.returns-clause-left
returns-clause-left g c = left_by_request _ c.in_ok-request.request (Ok c.in_ok-job_of_request.field-0) _ _ _ _ _ _ c.in_ok-request.ensures.read c.in_ok-job_of_request.ensures.left

pub returns-clause-asked : goal.returns-clause-asked
returns-clause-asked g c = asks_of_words _ c.in_ok-request.request _ _ _ c.in_ok-request.ensures.read c.in_ok-job_of_request.ensures.asked

pub returns-in_err-job_of_request-clause-limits : goal.returns-in_err-job_of_request-clause-limits
returns-in_err-job_of_request-clause-limits g c =
    let made = err_from_is_err_and c.from_residual-in_err-job_of_request.result c.from_residual-in_err-job_of_request.ensures.1 in
    rw (made.1, made.2) (limits_of_words _ (told_files (g.L.Library.content c.args.library.now)) c.in_ok-request.request (job_status c.in_err-job_of_request.field-0.0) c.in_ok-request.ensures.read c.in_err-job_of_request.ensures.limits)

pub returns-clause-limits : goal.returns-clause-limits
returns-clause-limits g c = limits_of_words _ (told_files (g.L.Library.content c.args.library.now)) c.in_ok-request.request done_status c.in_ok-request.ensures.read c.in_ok-job_of_request.ensures.limits

pub returns-in_err-request-clause-sampled : goal.returns-in_err-request-clause-sampled
returns-in_err-request-clause-sampled g c =
    let made = err_from_is_err_and c.from_residual.result c.from_residual.ensures.1 in
    rw (made.1, made.2) (λ unread. decided_for_words _ (Some []) _ c.in_err-request.ensures.refused)

pub returns-in_err-job_of_request-clause-sampled : goal.returns-in_err-job_of_request-clause-sampled
returns-in_err-job_of_request-clause-sampled g c =
    let made = err_from_is_err_and c.from_residual-in_err-job_of_request.result c.from_residual-in_err-job_of_request.ensures.1 in
    rw (made.1, made.2)
    (λ unread. decided_for_request _ (Some []) c.in_ok-request.request (Err c.in_err-job_of_request.field-0.0) c.in_ok-request.ensures.read
    (c.in_err-job_of_request.ensures.sampled (sym (ap reads_for c.in_ok-request.ensures.read) ∙ unread)))

pub returns-clause-sampled : goal.returns-clause-sampled
returns-clause-sampled g c = λ unread.
    decided_for_request _ (Some []) c.in_ok-request.request (Ok c.in_ok-job_of_request.field-0) c.in_ok-request.ensures.read
    (c.in_ok-job_of_request.ensures.sampled (sym (ap reads_for c.in_ok-request.ensures.read) ∙ unread))

pub returns-in_err-request-clause-asked : goal.returns-in_err-request-clause-asked
returns-in_err-request-clause-asked g c = asks_nothing _ _ _

pub returns-in_err-job_of_request-clause-longer_schema : goal.returns-in_err-job_of_request-clause-longer_schema
returns-in_err-job_of_request-clause-longer_schema g c =
    let made = err_from_is_err_and c.from_residual-in_err-job_of_request.result c.from_residual-in_err-job_of_request.ensures.1 in
    rw (made.1, made.2) (where_asked _ _ c.in_ok-request.request c.in_ok-request.ensures.read c.in_err-job_of_request.ensures.longer_schema)
