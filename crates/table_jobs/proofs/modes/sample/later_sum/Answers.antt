use Rattle.std.proofs.Common.{ℕ, List, subst}
use Rattle.stream_apply.specs.InTurn.{IsFaultAt}
use Rattle.stream_apply.specs.declared.key_fields.KeyFields.TheVariants.{One}
use Rattle.table_jobs.proofs.SampleLemmas.{no-fault}
use Rattle.table_jobs.proofs.modes.sample.later_sum.Goals as goal

pub unreachable-requires : goal.unreachable-requires
unreachable-requires c =
    let told = c.in-Err.told in
    let other = c.if-is_memory.ensures.other in
    let has = (c.in-Err.ensures.fault other).1 in
    no-fault c.args.plan.now c.schema-limits.ensures.limits c.args.table c.requires.table c.args.texts.now.inputs c.requires.texts.inputs told.place told.fault other
    (subst (λ (delimiter : ℕ). IsFaultAt One delimiter c.args.texts.now.inputs told.place told.fault) c.delimiter.ensures
    (subst (λ (inputs : List (List ℕ)). IsFaultAt One c.delimiter.result inputs told.place told.fault) c.as_slice.ensures has))
