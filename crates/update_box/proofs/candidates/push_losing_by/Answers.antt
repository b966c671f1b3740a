use Rattle.std.proofs.Common.{◌≡◌, ℕ, List, length, arith, ap, sym, ◌∙◌}
use Rattle.std.specs.Prelude.{All}
use Rattle.schema_plan.specs.declared.ready.ReadyKind.TheVariants as kind
use Rattle.schema_plan.specs.declared.ready.ReadyReference.{ReadyReference}
use Rattle.schema_facts.specs.Dictionaries.{Project}
use Rattle.schema_facts.specs.Layout.{layout_of}
use Rattle.schema_plan.specs.Ready.{ready_columns}
use Rattle.schema_facts.specs.References.{Reference, references_of}
use Rattle.life_intervals.specs.CohortParents.{IsReferenceOf, reference_by}
use Rattle.life_intervals.specs.Generator.{table_of}
use Rattle.life_intervals.proofs.CohortParentLemmas.{length-ready_columns, none_from_columns, ready_is, reference_from_columns}
use Rattle.life_intervals.proofs.ReferenceLemmas.{at_column}
use Rattle.update_box.specs.declared.table_rows.TableRows.{TableRows}
use Rattle.update_box.specs.Found.{HasDying}
use Rattle.update_box.proofs.ReferenceFilterLemmas.{losing-all, losing-next, losing-no_reference, losing-none, losing-other, losing-within}
use Rattle.update_box.proofs.candidates.push_losing_by.Goals as goal
use Rattle.update_box.proofs.candidates.push_losing_by.Goals.{in-Reference+then-is_on+in_ok-push_losing, in-Reference+else-is_on, in_default}

pub loop-column-init : goal.loop-column-init
loop-column-init g c = losing-none c.args.rows.now c.args.table c.args.t c.args.on_delete c.args.list.now.items c.args.steps.now

-- what dies in the parent's table of a reference is found
found-of : (plan : Project) (table t column : ℕ) (ready : ReadyReference) (before : List TableRows) → All (λ (reference : Reference). HasDying plan t before reference.parent) (references_of (table_of plan table)) → IsReferenceOf plan table column ready → HasDying plan t before ready.parent
found-of plan table t column ready before all of =
    at_column (λ (reference : Reference). HasDying plan t before reference.parent) (table_of plan table) all column (reference_by column ready) of.within (ready_is plan table column ready of).is

pub bounds-before-reference : goal.bounds-before-reference
bounds-before-reference g c =
    let plan : Project = c.args.rows.now in
    let columns : c.columns-ready-items.result.now ≡ ready_columns (layout_of plan) c.args.table =
    c.columns-ready-items.ensures.columns ∙ ap (λ (p : Project). ready_columns (layout_of p) c.args.table) c.plan.ensures in
    let of : IsReferenceOf plan c.args.table c.loop-column.column c.in-Reference.reference =
    reference_from_columns plan c.args.table c.loop-column.column c.columns-ready-items.result.now c.ready-item.result c.in-Reference.reference columns c.loop-column-test.true c.ready-item.is c.in-Reference.is in
    (found-of plan c.args.table c.args.t c.loop-column.column c.in-Reference.reference c.args.before.now c.requires.parents of).there

pub push_losing-requires-clause-parents : goal.push_losing-requires-clause-parents
push_losing-requires-clause-parents g c =
    let plan : Project = c.args.rows.now in
    let columns : c.columns-ready-items.result.now ≡ ready_columns (layout_of plan) c.args.table =
    c.columns-ready-items.ensures.columns ∙ ap (λ (p : Project). ready_columns (layout_of p) c.args.table) c.plan.ensures in
    let of : IsReferenceOf plan c.args.table c.loop-column.column c.in-Reference.reference =
    reference_from_columns plan c.args.table c.loop-column.column c.columns-ready-items.result.now c.ready-item.result c.in-Reference.reference columns c.loop-column-test.true c.ready-item.is c.in-Reference.is in
    c.as_slice-parents.ensures.value
    ∙ (found-of plan c.args.table c.args.t c.loop-column.column c.in-Reference.reference c.args.before.now c.requires.parents of).are c.index-before-reference.result

pub returns-in_err-push_losing-clause-steps : goal.returns-in_err-push_losing-clause-steps
returns-in_err-push_losing-clause-steps g c =
    let plan : Project = c.args.rows.now in
    let columns : c.columns-ready-items.result.now ≡ ready_columns (layout_of plan) c.args.table =
    c.columns-ready-items.ensures.columns ∙ ap (λ (p : Project). ready_columns (layout_of p) c.args.table) c.plan.ensures in
    let of : IsReferenceOf plan c.args.table c.loop-column.column c.in-Reference.reference =
    reference_from_columns plan c.args.table c.loop-column.column c.columns-ready-items.result.now c.ready-item.result c.in-Reference.reference columns c.loop-column-test.true c.ready-item.is c.in-Reference.is in
    losing-within plan c.args.table c.args.t c.args.on_delete c.loop-column.column c.in-Reference.reference of (sym c.is_on.ensures ∙ c.if-is_on.true)
    c.args.list.now.items c.loop-column.list.items c.args.steps.now c.loop-column.steps c.push_losing.new.steps c.loop-column.invariant c.push_losing.ensures.steps

pub loop-column-preserved : goal.loop-column-preserved
loop-column-preserved g c =
    let plan : Project = c.args.rows.now in
    let at : ℕ = c.loop-column.column in
    let before : List ℕ = c.args.list.now.items in
    let columns : c.columns-ready-items.result.now ≡ ready_columns (layout_of plan) c.args.table =
    c.columns-ready-items.ensures.columns ∙ ap (λ (p : Project). ready_columns (layout_of p) c.args.table) c.plan.ensures in
    let of : (ready : ReadyReference) → c.ready-item.result.kind ≡ kind.Reference ready → IsReferenceOf plan c.args.table at ready =
    λ ready is. reference_from_columns plan c.args.table at c.columns-ready-items.result.now c.ready-item.result ready columns c.loop-column-test.true c.ready-item.is is in
    elim c.match-ready.branch [
      | in-Reference+then-is_on+in_ok-push_losing w ↦
          let ready : ReadyReference = w.in-Reference.reference in
          rw (w.list-is, w.steps-is)
          (losing-next plan c.args.table c.args.t c.args.on_delete at ready (of ready w.in-Reference.is) (sym w.is_on.ensures ∙ w.if-is_on.true) before c.loop-column.list.items w.push_losing.new.list.items
          c.args.steps.now c.loop-column.steps w.push_losing.new.steps c.loop-column.invariant w.in_ok-push_losing.ensures.rows w.push_losing.ensures.steps)
      | in-Reference+else-is_on w ↦
          let ready : ReadyReference = w.in-Reference.reference in
          rw (w.list-is, w.steps-is)
          (losing-other plan c.args.table c.args.t c.args.on_delete at ready (of ready w.in-Reference.is) (sym w.is_on.ensures ∙ w.if-is_on.false) before c.loop-column.list.items c.args.steps.now c.loop-column.steps c.loop-column.invariant)
      | in_default w ↦
          let none = none_from_columns plan c.args.table at c.columns-ready-items.result.now c.ready-item.result columns c.loop-column-test.true c.ready-item.is w.in_default.not-Reference in
          rw (w.list-is, w.steps-is)
          (losing-no_reference plan c.args.table c.args.t c.args.on_delete at none.0 none.1 before c.loop-column.list.items c.args.steps.now c.loop-column.steps c.loop-column.invariant)
    ]

pub returns : goal.returns
returns g c =
    let plan : Project = c.args.rows.now in
    let columns : c.columns-ready-items.result.now ≡ ready_columns (layout_of plan) c.args.table =
    c.columns-ready-items.ensures.columns ∙ ap (λ (p : Project). ready_columns (layout_of p) c.args.table) c.plan.ensures in
    let all = losing-all plan c.args.table c.args.t c.args.on_delete c.loop-column.column (omega (arith, c.loop-column-test.false, ap length columns, length-ready_columns plan c.args.table))
    c.args.list.now.items c.loop-column.list.items c.args.steps.now c.loop-column.steps c.loop-column.invariant in
    record { rows = all.0; steps = all.1 }
