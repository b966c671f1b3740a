use Rattle.std.proofs.Common.{◌-◌, ◌*◌, ◌<◌, ◌^◌, ℕ, ap, arith, subst, sym, ◌∙◌}
use Rattle.schema_plan.specs.declared.ready.ReadyColumn.{ReadyColumn}
use Rattle.schema_facts.specs.Dictionaries.{Project}
use Rattle.schema_facts.specs.References.{Reference, reference_at}
use Rattle.life_intervals.specs.Children.{candidate_count, number_block}
use Rattle.life_intervals.specs.Generator.{table_of}
use Rattle.life_intervals.proofs.ChildLemmas.{HasReference-some, IsRead-columns, number_block-cut}
use Rattle.life_intervals.proofs.CohortParentLemmas.{limits_of, parent_below}
use Rattle.life_intervals.proofs.children.number_block.Goals as goal

pub of_cohort-window-requires-clause-parent : goal.of_cohort-window-requires-clause-parent
of_cohort-window-requires-clause-parent c =
    let plan : Project = c.args.plan.now in
    let has = HasReference-some (reference_at (table_of plan c.args.table) c.args.column) c.requires.reference in
    let read = IsRead-columns plan c.args.table c.args.column c.columns.result.now c.index-columns-column.result c.in-Reference.reference has.reference c.columns.ensures.columns c.index-columns-column.is
    (ap (λ (held : ReadyColumn). held.kind) c.index-columns-column.is ∙ c.in-Reference.is) has.is in
    parent_below plan c.schema-limits.ensures.limits c.args.table c.args.column c.in-Reference.reference c.requires.table read.of

pub block_below-requires-clause-spread : goal.block_below-requires-clause-spread
block_below-requires-clause-spread c =
    let plan : Project = c.args.plan.now in
    let has = HasReference-some (reference_at (table_of plan c.args.table) c.args.column) c.requires.reference in
    let read = IsRead-columns plan c.args.table c.args.column c.columns.result.now c.index-columns-column.result c.in-Reference.reference has.reference c.columns.ensures.columns c.index-columns-column.is
    (ap (λ (held : ReadyColumn). held.kind) c.index-columns-column.is ∙ c.in-Reference.is) has.is in
    (limits_of plan c.schema-limits.ensures.limits c.args.table c.args.column c.in-Reference.reference c.requires.table read.of).spread

pub returns : goal.returns
returns c = λ reference at.
    let plan : Project = c.args.plan.now in
    let read = IsRead-columns plan c.args.table c.args.column c.columns.result.now c.index-columns-column.result c.in-Reference.reference reference c.columns.ensures.columns c.index-columns-column.is
    (ap (λ (held : ReadyColumn). held.kind) c.index-columns-column.is ∙ c.in-Reference.is) at in
    c.block_below.ensures
    ∙ number_block-cut plan c.args.table c.args.column c.args.unit c.args.number c.args.turn c.in-Reference.reference c.of_cohort-window.result c.cohort.result.size c.saturating_add-number.result (2 ^ 64 - 1)
    (limits_of plan c.schema-limits.ensures.limits c.args.table c.args.column c.in-Reference.reference c.requires.table read.of).spread
    (subst (λ (r : Reference). c.args.number < candidate_count plan r c.args.unit) (sym read.same) (c.requires.number reference at))
    c.of_cohort-window.ensures c.cohort.ensures.size (omega (arith, c.cohort.ensures.limit))
    (omega (arith, c.saturating_add-number.ensures, c.saturating_mul-before.ensures, ap (λ (n : ℕ). c.args.turn * n) c.number.ensures.number))
    ∙ ap (λ (r : Reference). number_block plan c.args.table r c.args.number c.args.unit c.args.turn) read.same
