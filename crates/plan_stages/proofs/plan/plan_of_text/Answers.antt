use Rattle.std.proofs.Common.{arith}
use Rattle.std.proofs.lemmas.Result.{err_from_is_err_and}
use Rattle.plan_stages.proofs.LibraryLemmas.{schema_of_itself, untouched}
use Rattle.plan_stages.proofs.plan.plan_of_text.Goals as goal

pub returns-in_err-schema-clause-after : goal.returns-in_err-schema-clause-after
returns-in_err-schema-clause-after g c =
    let made = err_from_is_err_and c.from_residual.result c.from_residual.ensures.1 in
    rw (made.1, made.2) (untouched _ _ _ _ _ _ (schema_of_itself c.in_err-schema.field-0.0) c.requires.read_out (omega (arith, c.requires.taken)))
