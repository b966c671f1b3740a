use Rattle.std.proofs.Common.{◌≡◌, ◌≤◌, ℕ, Option, List, filter, length, map, sum_by, ap, ap₂, arith, subst, sym, ◌∙◌}
use Rattle.schema_plan.specs.declared.ready.ReadyColumn.{ReadyColumn}
use Rattle.schema_plan.specs.declared.ready.ReadyReference.{ReadyReference}
use Rattle.schema_facts.specs.Dictionaries.{Project}
use Rattle.schema_facts.specs.Layout.{layout_of}
use Rattle.schema_plan.specs.Limits.{IsInLimits}
use Rattle.schema_plan.specs.Ready.{ready_columns}
use Rattle.schema_facts.specs.References.{Reference, references_of}
use Rattle.life_intervals.specs.Changes.{last_change, later_change}
use Rattle.life_intervals.specs.CohortKeys.{CohortOf}
use Rattle.life_intervals.specs.CohortParents.{loss_in}
use Rattle.life_intervals.specs.Found.{cohort_of_row}
use Rattle.life_intervals.specs.Generator.{table_of}
use Rattle.life_intervals.proofs.CohortParentLemmas.{before-none, change_before-nulls, change_before-other, cost_of_reference, length-ready_columns, loss_before-nulls, loss_before-other, loss_cost-parts, none_from_columns, reference_from_columns, references_before-all}
use Rattle.life_intervals.proofs.ReferenceLemmas.{references_before}
use Rattle.life_intervals.proofs.rows.Rows.last_loss.Goals as goal
use Rattle.life_intervals.proofs.rows.Rows.last_loss.Goals.{in-Reference+then-reference, in-Reference+else-reference, in_default}

-- after the last column all references are before
all_columns : (plan : Project) (table column : ℕ) (columns : List ReadyColumn) → columns ≡ ready_columns (layout_of plan) table → length columns ≤ column →
    references_before (table_of plan table) column ≡ references_of (table_of plan table)
all_columns plan table column columns are all = references_before-all plan table column (omega (arith, all, ap length are, length-ready_columns plan table))

pub returns-clause-change : goal.returns-clause-change
returns-clause-change g c =
    let plan : Project = c.args.self.now in
    let loss : Reference → Option ℕ = loss_in (cohort_of_row plan c.args.table c.args.row) c.args.row.index in
    c.loop-column.invariant.last
    ∙ ap (λ (references : List Reference). last_change c.args.t c.args.change (map loss references)) (all_columns plan c.args.table c.loop-column.column c.columns-ready-items.result.now
    (c.columns-ready-items.ensures.columns ∙ ap (λ (p : Project). ready_columns (layout_of p) c.args.table) c.plan-2.ensures) c.loop-column-test.false)

pub returns-clause-most : goal.returns-clause-most
returns-clause-most g c =
    let plan : Project = c.args.self.now in
    let of : CohortOf = cohort_of_row plan c.args.table c.args.row in
    omega (
      arith,
      c.loop-column.invariant.most,
      loss_cost-parts plan (subst IsInLimits c.plan.ensures c.schema-limits.ensures.limits) c.args.table c.requires.table,
      ap (λ (references : List Reference). sum_by (cost_of_reference of) (filter (λ (reference : Reference). reference.nulls) references)) (all_columns plan c.args.table c.loop-column.column c.columns-ready-items.result.now
          (c.columns-ready-items.ensures.columns ∙ ap (λ (p : Project). ready_columns (layout_of p) c.args.table) c.plan-2.ensures) c.loop-column-test.false),
    )

pub loop-column-preserved : goal.loop-column-preserved
loop-column-preserved g c =
    let plan : Project = c.args.self.now in
    let of : CohortOf = cohort_of_row plan c.args.table c.args.row in
    let columns : c.columns-ready-items.result.now ≡ ready_columns (layout_of plan) c.args.table =
    c.columns-ready-items.ensures.columns ∙ ap (λ (p : Project). ready_columns (layout_of p) c.args.table) c.plan-2.ensures in
    let at : ℕ = c.loop-column.column in
    elim c.match-ready.branch [
      | in-Reference+then-reference w ↦
          let reference : ReadyReference = w.in-Reference.reference in
          let is = reference_from_columns plan c.args.table at c.columns-ready-items.result.now c.ready-item.result reference columns c.loop-column-test.true c.ready-item.is w.in-Reference.is in
          record {
            last = w.last-is
                ∙ w.later_change-last.ensures
                ∙ ap₂ (later_change c.args.t) c.loop-column.invariant.last w.parent_death-loss.ensures.death
                ∙ sym (change_before-nulls of c.args.row.index c.args.change c.args.t at reference is w.if-reference.true);
            least = omega (arith, w.steps-is, c.loop-column.invariant.least, w.parent_death-loss.ensures.least);
            most = omega (arith, w.steps-is, w.parent_death-loss.ensures.steps, c.loop-column.invariant.most, loss_before-nulls of at reference is w.if-reference.true);
          }
      | in-Reference+else-reference w ↦
          let reference : ReadyReference = w.in-Reference.reference in
          let is = reference_from_columns plan c.args.table at c.columns-ready-items.result.now c.ready-item.result reference columns c.loop-column-test.true c.ready-item.is w.in-Reference.is in
          record {
            last = w.last-is ∙ c.loop-column.invariant.last ∙ sym (change_before-other of c.args.row.index c.args.change c.args.t at reference is w.if-reference.false);
            least = omega (arith, w.steps-is, c.loop-column.invariant.least);
            most = omega (arith, w.steps-is, c.loop-column.invariant.most, loss_before-other of at reference is w.if-reference.false);
          }
      | in_default w ↦
          let none = none_from_columns plan c.args.table at c.columns-ready-items.result.now c.ready-item.result columns c.loop-column-test.true c.ready-item.is w.in_default.not-Reference in
          let rest = before-none of at none.0 none.1 in
          record {
            last = w.last-is ∙ c.loop-column.invariant.last ∙ sym (ap (λ (references : List Reference). last_change c.args.t c.args.change (map (loss_in of c.args.row.index) references)) rest);
            least = omega (arith, w.steps-is, c.loop-column.invariant.least);
            most = omega (arith, w.steps-is, c.loop-column.invariant.most, ap (λ (references : List Reference). sum_by (cost_of_reference of) (filter (λ (reference : Reference). reference.nulls) references)) rest);
          }
    ]
