use Rattle.std.proofs.Common.{◌≡◌, ◌<◌, ℕ, List, None, filter, length, map, is_none, sum_by, ap, ap₂, arith, subst, sym, ◌∙◌}
use Rattle.schema_plan.specs.declared.ready.ReadyReference.{ReadyReference}
use Rattle.schema_facts.specs.Dictionaries.{Project}
use Rattle.schema_facts.specs.Layout.{layout_of}
use Rattle.schema_plan.specs.Limits.{IsInLimits}
use Rattle.schema_facts.specs.Lineage.{lesser_life, sure_life}
use Rattle.schema_plan.specs.Ready.{ready_columns}
use Rattle.schema_facts.specs.References.{Reference}
use Rattle.cohort_sizes.proofs.CohortLemmas.{born_count-le}
use Rattle.life_intervals.specs.CohortKeys.{CohortOf}
use Rattle.life_intervals.specs.CohortParents.{parent_death_in, parent_in, reference_by}
use Rattle.life_intervals.specs.Found.{cohort_of_row}
use Rattle.life_intervals.specs.Generator.{last_unit, rows_in_all, table_of}
use Rattle.life_intervals.specs.Intervals.{first_death}
use Rattle.life_intervals.proofs.CascadeLemmas.{is_cascading}
use Rattle.life_intervals.proofs.CohortParentLemmas.{asked_for_death-cost, before-none, cost_before-nulls, cost_before-some, cost_of_reference, first_before-nulls, first_before-some, limits_of, none_from_columns, parent_below, parent_in-born, reference_from_columns}
use Rattle.life_intervals.proofs.FoundLemmas.{death-never, found-death, none-from}
use Rattle.life_intervals.proofs.rows.Rows.+deaths.Goals as goal
use Rattle.life_intervals.proofs.rows.Rows.+deaths.Goals.{first_death-in-Reference+then-not-reference, first_death-in-Reference+else-not-reference, first_death-in_default}

pub death-returns-clause-steps : goal.death-returns-clause-steps
death-returns-clause-steps g t c =
    let limits : IsInLimits c.args.self.now = subst IsInLimits c.plan.ensures c.schema-sound.ensures.limits in
    omega (arith, c.found_death.ensures.steps, asked_for_death-cost c.args.self.now limits c.args.table c.requires.table)

pub found_death-returns-clause-death : goal.found_death-returns-clause-death
found_death-returns-clause-death g t c =
    let limits : IsInLimits c.args.self.now = subst IsInLimits c.plan.ensures c.schema-sound.ensures.limits in
    c.earlier.ensures
    ∙ ap₂ lesser_life c.found_own_death-own.ensures.death c.first_death.ensures.death
    ∙ found-death c.args.self.now c.args.table c.args.row c.requires.row limits c.requires.table

pub parent_death-never_dies-requires : goal.parent_death-never_dies-requires
parent_death-never_dies-requires g t c =
    let limits : IsInLimits c.args.self.now = subst IsInLimits c.plan.ensures c.schema-limits.ensures.limits in
    omega (
      arith,
      parent_below c.args.self.now limits c.args.table c.args.column c.args.reference.now c.requires.table c.requires.reference,
      ap (λ (p : Project). length p.schema.tables) c.plan-2.ensures,
    )

pub parent_death-returns-then-never_dies-clause-death : goal.parent_death-returns-then-never_dies-clause-death
parent_death-returns-then-never_dies-clause-death g t c =
    let plan : Project = c.args.self.now in
    let row = c.args.row in
    let reference : ReadyReference = c.args.reference.now in
    let limits : IsInLimits plan = subst IsInLimits c.plan.ensures c.schema-limits.ensures.limits in
    let below = parent_below plan limits c.args.table c.args.column reference c.requires.table c.requires.reference in
    let endless : sure_life (layout_of plan).tables reference.parent ≡ None =
    none-from (sure_life (layout_of plan).tables reference.parent)
    (ap (λ (p : Project). is_none (sure_life (layout_of p).tables reference.parent)) (sym c.plan-2.ensures) ∙ sym c.never_dies.ensures ∙ c.if-never_dies.true) in
    let parent : ℕ = parent_in (cohort_of_row plan c.args.table row) row.index (reference_by c.args.column reference) in
    let born : parent < rows_in_all plan reference.parent =
    omega (
      arith,
      parent_in-born plan limits c.args.table c.args.column row.born row.index reference c.requires.table c.requires.reference c.requires.row.born c.requires.row.index,
      born_count-le (table_of plan reference.parent).births row.born (last_unit plan) c.requires.row.born,
    ) in
    sym (death-never plan limits reference.parent below endless parent born)

pub parent_death-death-requires : goal.parent_death-death-requires
parent_death-death-requires g t c κs outlives =
    let plan : Project = c.args.self.now in
    let reference : ReadyReference = c.args.reference.now in
    let limits : IsInLimits plan = subst IsInLimits c.plan.ensures c.schema-limits.ensures.limits in
    let is = limits_of plan limits c.args.table c.args.column reference c.requires.table c.requires.reference in (
      omega (arith, c.decreases, is.earlier),
      (
        outlives,
        (
          omega (arith, c.requires.table, is.earlier),
          omega (arith, c.found_parent-parent.ensures.born, born_count-le (table_of plan reference.parent).births c.args.row.born (last_unit plan) c.requires.row.born),
        ),
      ),
    )

pub first_death-loop-column-preserved : goal.first_death-loop-column-preserved
first_death-loop-column-preserved g t c =
    let plan : Project = c.args.self.now in
    let of : CohortOf = cohort_of_row plan c.args.table c.args.row in
    let columns : c.columns-ready-items.result.now ≡ ready_columns (layout_of plan) c.args.table =
    c.columns-ready-items.ensures.columns ∙ ap (λ (p : Project). ready_columns (layout_of p) c.args.table) c.plan-2.ensures in
    let at : ℕ = c.loop-column.column in
    elim c.match-ready.branch [
      | first_death-in-Reference+then-not-reference w ↦
          let reference : ReadyReference = w.in-Reference.reference in
          let is = reference_from_columns plan c.args.table at c.columns-ready-items.result.now c.ready-item.result reference columns c.loop-column-test.true c.ready-item.is w.in-Reference.is in
          record {
            first = w.first-is
                ∙ w.earlier-first.ensures
                ∙ ap₂ lesser_life c.loop-column.invariant.first w.parent_death-death.ensures.death
                ∙ sym (first_before-some of c.args.row.index at reference is w.if-not-reference.true);
            least = omega (arith, w.steps-is, w.parent_death-death.ensures.least, c.loop-column.invariant.least);
            steps = omega (
              arith,
              w.steps-is,
              w.parent_death-death.ensures.steps,
              c.loop-column.invariant.steps,
              cost_before-some of at reference is w.if-not-reference.true,
            );
          }
      | first_death-in-Reference+else-not-reference w ↦
          let reference : ReadyReference = w.in-Reference.reference in
          let is = reference_from_columns plan c.args.table at c.columns-ready-items.result.now c.ready-item.result reference columns c.loop-column-test.true c.ready-item.is w.in-Reference.is in
          record {
            first = w.first-is ∙ c.loop-column.invariant.first ∙ sym (first_before-nulls of c.args.row.index at reference is w.if-not-reference.false);
            least = omega (arith, w.steps-is, c.loop-column.invariant.least);
            steps = omega (arith, w.steps-is, c.loop-column.invariant.steps, cost_before-nulls of at reference is w.if-not-reference.false);
          }
      | first_death-in_default w ↦
          let none = none_from_columns plan c.args.table at c.columns-ready-items.result.now c.ready-item.result columns c.loop-column-test.true c.ready-item.is w.in_default.not-Reference in
          let rest = before-none of at none.0 none.1 in
          record {
            first = w.first-is ∙ c.loop-column.invariant.first ∙ sym (ap (λ (references : List Reference). first_death (map (parent_death_in of c.args.row.index) (filter is_cascading references))) rest);
            least = omega (arith, w.steps-is, c.loop-column.invariant.least);
            steps = omega (arith, w.steps-is, c.loop-column.invariant.steps, ap (λ (references : List Reference). sum_by (cost_of_reference of) (filter is_cascading references)) rest);
          }
    ]
