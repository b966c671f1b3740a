use Rattle.std.proofs.Common.{◌≤◌, arith, inl, length, refl}
use Rattle.std.proofs.lemmas.Result.{err_from_is_err_and}
use Rattle.plan_stages.specs.Limits.{schema_limit}
use Rattle.plan_stages.proofs.LibraryLemmas.{after_step, file_unread, unfailed_on_ok}
use Rattle.plan_stages.proofs.PlanLemmas.{asks_schema_at_most, asks_then, decided_for_name, plan_read}
use Rattle.plan_stages.proofs.plan.plan_of.Goals as goal

pub returns-in_err-bytes-clause-asked : goal.returns-in_err-bytes-clause-asked
returns-in_err-bytes-clause-asked g c = asks_schema_at_most _ _ _ _ c.in_err-bytes.ensures.asked_at_most

pub returns-clause-plan : goal.returns-clause-plan
returns-clause-plan g c =
    let within : length c.in_ok-bytes.bytes.items ≤ schema_limit = omega (arith, c.in_ok-bytes.ensures.taken, c.in_ok-bytes.ensures.within) in
    decided_for_name _ _ c.args.name.now c.in_ok-bytes.bytes.items c.deref.result.now c.plan_of_text.result c.in_ok-bytes.ensures.files c.in_ok-bytes.ensures.whole within
    c.deref.ensures.value c.plan_of_text.ensures.plan

pub returns-clause-asked : goal.returns-clause-asked
returns-clause-asked g c =
    let within : length c.in_ok-bytes.bytes.items ≤ schema_limit = omega (arith, c.in_ok-bytes.ensures.taken, c.in_ok-bytes.ensures.within) in
    asks_then _ _ c.args.name.now c.in_ok-bytes.bytes.items c.deref.result.now _ _ _ c.in_ok-bytes.ensures.files c.in_ok-bytes.ensures.whole within
    c.deref.ensures.value (c.in_ok-bytes.ensures.asked (inl refl)) c.plan_of_text.ensures.asked

pub returns-clause-read : goal.returns-clause-read
returns-clause-read g c =
    let within : length c.in_ok-bytes.bytes.items ≤ schema_limit = omega (arith, c.in_ok-bytes.ensures.taken, c.in_ok-bytes.ensures.within) in
    plan_read _ _ c.args.name.now c.in_ok-bytes.bytes.items c.deref.result.now _ _ _ c.plan_of_text.result c.in_ok-bytes.ensures.files
    c.in_ok-bytes.ensures.whole within c.deref.ensures.value (c.in_ok-bytes.ensures.asked (inl refl)) c.plan_of_text.ensures.read
    c.plan_of_text.ensures.asked_all c.plan_of_text.ensures.readable

pub returns-in_err-bytes-clause-after : goal.returns-in_err-bytes-clause-after
returns-in_err-bytes-clause-after g c =
    let made = err_from_is_err_and c.from_residual.result c.from_residual.ensures.1 in
    let read = c.in_err-bytes.ensures in
    rw (made.1, made.2) (file_unread c.in_err-bytes.field-0.0 schema_limit _ _ _ _ _ _ read.files read.too_long.0 read.failed read.stopped read.unfailed)

pub returns-clause-after : goal.returns-clause-after
returns-clause-after g c =
    let read = c.in_ok-bytes.ensures in
    after_step _ _ _ _ _ _ _ _ _ _ read.files (unfailed_on_ok c.in_ok-bytes.bytes _ _ read.unfailed) c.plan_of_text.ensures.after
