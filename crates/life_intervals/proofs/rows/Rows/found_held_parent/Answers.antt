use Rattle.std.proofs.Common.{◌≡◌, ◌<◌, ℕ, Bool, Option, None, is_none, length, ap, arith, subst, sym, ◌∙◌}
use Rattle.std.specs.Prelude.{if◌then◌else◌}
use Rattle.schema_plan.specs.declared.ready.ReadyReference.{ReadyReference}
use Rattle.schema_facts.specs.Dictionaries.{Project}
use Rattle.schema_facts.specs.Layout.{layout_of}
use Rattle.schema_plan.specs.Limits.{IsInLimits}
use Rattle.schema_facts.specs.Lineage.{sure_life}
use Rattle.life_intervals.specs.CohortParents.{IsReferenceOf, parent_death_in, parent_in, reference_by}
use Rattle.life_intervals.specs.Found.{cohort_of_row}
use Rattle.life_intervals.specs.Generator.{generator_of, last_unit, rows_in_all, table_of}
use Rattle.life_intervals.specs.Intervals.{death, held_until}
use Rattle.cohort_sizes.proofs.CohortLemmas.{born_count-le}
use Rattle.life_intervals.proofs.CohortParentLemmas.{parent_below}
use Rattle.life_intervals.proofs.FoundLemmas.{death-never, none-from}
use Rattle.life_intervals.proofs.rows.Rows.found_held_parent.Goals as goal

below : (plan : Project) (shown : Project) → shown ≡ plan → IsInLimits shown → (table column : ℕ) (ready : ReadyReference) → table < length plan.schema.tables → IsReferenceOf plan table column ready → ready.parent < length plan.schema.tables
below plan shown same limits table column ready within of = parent_below plan (subst IsInLimits same limits) table column ready within of

pub never_dies-requires : goal.never_dies-requires
never_dies-requires g c =
    omega (
      arith,
      below c.args.self.now c.plan.result.now c.plan.ensures c.schema-limits.ensures.limits c.args.table c.args.column c.args.reference.now c.requires.table c.requires.reference,
      ap (λ (p : Project). length p.schema.tables) c.plan-2.ensures,
    )

pub death-loss-requires-clause-table : goal.death-loss-requires-clause-table
death-loss-requires-clause-table g c =
    below c.args.self.now c.plan.result.now c.plan.ensures c.schema-limits.ensures.limits c.args.table c.args.column c.args.reference.now c.requires.table c.requires.reference

pub death-loss-requires-clause-row : goal.death-loss-requires-clause-row
death-loss-requires-clause-row g c =
    omega (arith, c.found_parent-parent.ensures.born, born_count-le (table_of c.args.self.now c.args.reference.now.parent).births c.args.row.born (last_unit c.args.self.now) c.requires.row.born)

pub returns-then-never_dies-clause-held : goal.returns-then-never_dies-clause-held
returns-then-never_dies-clause-held g c =
    let plan : Project = c.args.self.now in
    let reference : ReadyReference = c.args.reference.now in
    let held : Option ℕ → ℕ → Option ℕ = λ loss parent. held_until loss c.args.t parent in
    let parent : ℕ = parent_in (cohort_of_row plan c.args.table c.args.row) c.args.row.index (reference_by c.args.column reference) in
    let endless : sure_life (layout_of plan).tables reference.parent ≡ None =
    none-from (sure_life (layout_of plan).tables reference.parent)
    (ap (λ (p : Project). is_none (sure_life (layout_of p).tables reference.parent)) (sym c.plan-2.ensures) ∙ sym c.never_dies.ensures ∙ c.if-never_dies.true) in
    let born : c.found_parent-parent.result < rows_in_all plan reference.parent =
    omega (arith, c.found_parent-parent.ensures.born, born_count-le (table_of plan reference.parent).births c.args.row.born (last_unit plan) c.requires.row.born) in
    let dies : Option ℕ = parent_death_in (cohort_of_row plan c.args.table c.args.row) c.args.row.index (reference_by c.args.column reference) in
    let none : dies ≡ None =
    ap (death (generator_of plan) reference.parent (last_unit plan)) (sym c.found_parent-parent.ensures.parent)
    ∙ death-never plan (subst IsInLimits c.plan.ensures c.schema-limits.ensures.limits) reference.parent
    (below plan c.plan.result.now c.plan.ensures c.schema-limits.ensures.limits c.args.table c.args.column reference c.requires.table c.requires.reference) endless c.found_parent-parent.result born in
    ap (held None) c.found_parent-parent.ensures.parent
    ∙ ap (λ (loss : Option ℕ). held loss parent) (sym none)
    ∙ ap (λ (nulls : Bool). held (if nulls then dies else None) parent) (sym c.if-not-reference.false)
