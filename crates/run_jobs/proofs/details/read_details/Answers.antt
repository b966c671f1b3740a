use Rattle.std.proofs.Common.{◌≤◌, arith, inl, length, refl}
use Rattle.plan_stages.specs.Limits.{schema_limit}
use Rattle.run_jobs.proofs.DetailsLemmas.{asks_declaration_at_most, asks_then, details_read, read_decides, unasked_behind}
use Rattle.run_jobs.proofs.details.read_details.Goals as goal

pub returns-in_err-bytes-clause-asked : goal.returns-in_err-bytes-clause-asked
returns-in_err-bytes-clause-asked g c = asks_declaration_at_most _ _ _ _ _ c.in_err-bytes.ensures.asked_at_most

pub returns-clause-detail : goal.returns-clause-detail
returns-clause-detail g c =
    let within : length c.in_ok-bytes.bytes.items ≤ schema_limit = omega (arith, c.in_ok-bytes.ensures.taken, c.in_ok-bytes.ensures.within) in
    read_decides _ _ c.args.plan.now c.args.name.now c.in_ok-bytes.bytes.items c.deref.result.now c.detail_of_text.result c.in_ok-bytes.ensures.files c.in_ok-bytes.ensures.whole within
    c.deref.ensures.value c.detail_of_text.ensures.detail

pub returns-clause-asked : goal.returns-clause-asked
returns-clause-asked g c =
    let within : length c.in_ok-bytes.bytes.items ≤ schema_limit = omega (arith, c.in_ok-bytes.ensures.taken, c.in_ok-bytes.ensures.within) in
    asks_then _ _ c.args.plan.now c.args.name.now c.in_ok-bytes.bytes.items c.deref.result.now _ _ _ c.in_ok-bytes.ensures.files c.in_ok-bytes.ensures.whole within
    c.deref.ensures.value (c.in_ok-bytes.ensures.asked (inl refl)) c.detail_of_text.ensures.asked

pub returns-clause-read : goal.returns-clause-read
returns-clause-read g c =
    let within : length c.in_ok-bytes.bytes.items ≤ schema_limit = omega (arith, c.in_ok-bytes.ensures.taken, c.in_ok-bytes.ensures.within) in
    details_read _ _ c.args.plan.now c.args.name.now c.in_ok-bytes.bytes.items c.deref.result.now _ _ _ c.detail_of_text.result c.in_ok-bytes.ensures.files
    c.in_ok-bytes.ensures.whole within c.deref.ensures.value (c.in_ok-bytes.ensures.asked (inl refl)) c.detail_of_text.ensures.read
    c.detail_of_text.ensures.asked_all c.detail_of_text.ensures.readable

pub returns-clause-unasked : goal.returns-clause-unasked
returns-clause-unasked g c = λ none.
    unasked_behind c.args.name.now _ _ _ _ _ _ _ (c.in_ok-bytes.ensures.asked (inl refl)) c.detail_of_text.ensures.asked none
