use Rattle.std.proofs.Common.{arith}
use Rattle.std.proofs.lemmas.Result.{err_from_is_err_and}
use Rattle.plan_stages.proofs.LibraryLemmas.{after_done, check_of_itself, done_of_itself, untouched}
use Rattle.plan_stages.proofs.plan.plan_of_schema.Goals as goal

pub returns-in_err-names-clause-after : goal.returns-in_err-names-clause-after
returns-in_err-names-clause-after g c =
    let made = err_from_is_err_and c.from_residual.result c.from_residual.ensures.1 in
    rw (made.1, made.2) (untouched _ _ _ _ _ _ (check_of_itself c.in_err-names.field-0.0) c.requires.read_out (omega (arith, c.requires.taken)))

pub returns-in_err-dictionaries-clause-after : goal.returns-in_err-dictionaries-clause-after
returns-in_err-dictionaries-clause-after g c =
    let made = err_from_is_err_and c.from_residual-in_err-dictionaries.result c.from_residual-in_err-dictionaries.ensures.1 in
    rw (made.1, made.2) c.in_err-dictionaries.ensures.after

pub returns-in_err-check-clause-after : goal.returns-in_err-check-clause-after
returns-in_err-check-clause-after g c =
    let made = err_from_is_err_and c.from_residual-in_err-check.result c.from_residual-in_err-check.ensures.1 in
    rw (made.1, made.2) (after_done _ _ _ _ _ _ _ _ _ (check_of_itself c.in_err-check.field-0.0) c.in_ok-dictionaries.ensures.after)

pub returns-clause-after : goal.returns-clause-after
returns-clause-after g c = after_done _ _ _ _ _ _ _ _ _ done_of_itself c.in_ok-dictionaries.ensures.after
