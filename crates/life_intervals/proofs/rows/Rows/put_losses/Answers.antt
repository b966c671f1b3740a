use Rattle.std.proofs.Common.{◌≡◌, ◌≤◌, ◌+◌, ◌-◌, ◌*◌, ℕ, List, filter, get_or, length, map, sum_by, ap, ap₂, arith, subst, sym, ◌∙◌}
use Rattle.std.proofs.lemmas.List.{get_or-map, length-map}
use Rattle.cohort_sizes.specs.Births.{first_ordinal}
use Rattle.schema_plan.specs.declared.ready.ReadyColumn.{ReadyColumn}
use Rattle.schema_plan.specs.declared.ready.ReadyReference.{ReadyReference}
use Rattle.schema_facts.specs.Dictionaries.{Project}
use Rattle.schema_facts.specs.Layout.{layout_of}
use Rattle.schema_plan.specs.Limits.{IsInLimits}
use Rattle.schema_facts.specs.Lineage.{choice_cost, death_cost}
use Rattle.schema_plan.specs.Ready.{ready_columns}
use Rattle.schema_facts.specs.References.{Reference, references_of}
use Rattle.life_intervals.specs.declared.found.FoundRow.{FoundRow}
use Rattle.life_intervals.specs.Changes.{last_change, later_change}
use Rattle.life_intervals.specs.CohortKeys.{CohortOf}
use Rattle.life_intervals.specs.CohortOrders.{due_for}
use Rattle.life_intervals.specs.CohortParents.{loss_in}
use Rattle.life_intervals.specs.Generator.{generator_of, last_unit, table_of}
use Rattle.life_intervals.specs.Intervals.{change_unit, death}
use Rattle.life_intervals.proofs.CohortParentLemmas.{before-none, change_before-nulls, change_before-other, cost_of_reference, length-ready_columns, loss_before, loss_before-nulls, loss_before-other, loss_cost-parts, none_from_columns, reference_from_columns, references_before-all}
use Rattle.life_intervals.proofs.EndLemmas.{map-each, steps-more}
use Rattle.life_intervals.proofs.FoundLemmas.{found-parent}
use Rattle.life_intervals.proofs.PartLemmas.{due_for-losses, found-lies}
use Rattle.life_intervals.proofs.ReferenceLemmas.{references_before}
use Rattle.life_intervals.proofs.rows.Rows.put_losses.Goals as goal
use Rattle.life_intervals.proofs.rows.Rows.put_losses.Goals.{in-Reference+then-reference, in-Reference+else-reference, in_default}

-- after the last column all references are before
all_columns : (plan : Project) (table column : ℕ) (columns : List ReadyColumn) → columns ≡ ready_columns (layout_of plan) table → length columns ≤ column →
    references_before (table_of plan table) column ≡ references_of (table_of plan table)
all_columns plan table column columns are all = references_before-all plan table column (omega (arith, all, ap length are, length-ready_columns plan table))

pub loop-column-init : goal.loop-column-init
loop-column-init g c =
    let plan : Project = c.args.self.now in
    let due : ℕ → ℕ = due_for plan c.args.table c.args.t c.args.born in
    record {
      same_length = ap length c.requires.due ∙ length-map c.args.ordinals.now due;
      changes = λ i below. ap (λ (changes : List ℕ). get_or changes i 0) c.requires.due ∙ get_or-map due c.args.ordinals.now i 0 0 below;
      steps = omega arith;
    }

pub loop-column-preserved : goal.loop-column-preserved
loop-column-preserved g c =
    let plan : Project = c.args.self.now in
    let ordinals : List ℕ = c.args.ordinals.now in
    let of : CohortOf = record { plan = plan; table = c.args.table; unit = c.args.born } in
    let index : ℕ → ℕ = λ j. j - first_ordinal (table_of plan c.args.table).births c.args.born in
    let due : ℕ → ℕ = due_for plan c.args.table c.args.t c.args.born in
    let columns : c.columns-ready-items.result.now ≡ ready_columns (layout_of plan) c.args.table =
    c.columns-ready-items.ensures.columns ∙ ap (λ (p : Project). ready_columns (layout_of p) c.args.table) c.plan-2.ensures in
    let at : ℕ = c.loop-column.column in
    let before = c.loop-column.invariant in
    let within : c.args.born ≤ last_unit plan = omega (arith, c.requires.born, c.requires.unit) in
    elim c.match-ready.branch [
      | in-Reference+then-reference w ↦
          let reference : ReadyReference = w.in-Reference.reference in
          let is = reference_from_columns plan c.args.table at c.columns-ready-items.result.now c.ready-item.result reference columns c.loop-column-test.true c.ready-item.is w.in-Reference.is in
          record {
            same_length = ap length w.changes-is ∙ w.put_losses_by.ensures.same_length;
            changes = λ i below.
                let j : ℕ = get_or ordinals i 0 in
                let row : FoundRow = record { ordinal = j; born = c.args.born; index = index j } in
                let found = found-lies plan c.args.table c.args.born within j (c.requires.lie i 0 below) in
                ap (λ (changes : List ℕ). get_or changes i 0) w.changes-is
                ∙ w.put_losses_by.ensures.each i below
                ∙ ap₂ (λ (change parent : ℕ). later_change c.args.t change (death (generator_of plan) reference.parent (last_unit plan) parent)) (before.changes i below)
                (sym (found-parent plan c.args.table row found (last_unit plan) within at reference))
                ∙ sym (change_before-nulls of (index j) (due j) c.args.t at reference is w.if-reference.true);
            steps = steps-more (length ordinals) (loss_before of at) (choice_cost reference.drawn + death_cost (layout_of plan).tables reference.parent) (loss_before of (at + 1)) c.args.steps.now c.loop-column.steps c.match-ready.steps before.steps
                (omega (arith, w.steps-is, w.put_losses_by.ensures.steps)) (loss_before-nulls of at reference is w.if-reference.true);
          }
      | in-Reference+else-reference w ↦
          let reference : ReadyReference = w.in-Reference.reference in
          let is = reference_from_columns plan c.args.table at c.columns-ready-items.result.now c.ready-item.result reference columns c.loop-column-test.true c.ready-item.is w.in-Reference.is in
          record {
            same_length = ap length w.changes-is ∙ before.same_length;
            changes = λ i below.
                let j : ℕ = get_or ordinals i 0 in
                ap (λ (changes : List ℕ). get_or changes i 0) w.changes-is
                ∙ before.changes i below
                ∙ sym (change_before-other of (index j) (due j) c.args.t at reference is w.if-reference.false);
            steps = omega (arith, w.steps-is, before.steps, ap (λ (cost : ℕ). length ordinals * cost) (loss_before-other of at reference is w.if-reference.false));
          }
      | in_default w ↦
          let none = none_from_columns plan c.args.table at c.columns-ready-items.result.now c.ready-item.result columns c.loop-column-test.true c.ready-item.is w.in_default.not-Reference in
          let rest = before-none of at none.0 none.1 in
          record {
            same_length = ap length w.changes-is ∙ before.same_length;
            changes = λ i below.
                let j : ℕ = get_or ordinals i 0 in
                ap (λ (changes : List ℕ). get_or changes i 0) w.changes-is
                ∙ before.changes i below
                ∙ sym (ap (λ (references : List Reference). last_change c.args.t (due j) (map (loss_in of (index j)) references)) rest);
            steps = omega (
              arith,
              w.steps-is,
              before.steps,
              ap (λ (references : List Reference). length ordinals * sum_by (cost_of_reference of) (filter (λ (reference : Reference). reference.nulls) references)) rest,
            );
          }
    ]

pub returns-clause-changes : goal.returns-clause-changes
returns-clause-changes g c =
    let plan : Project = c.args.self.now in
    let ordinals : List ℕ = c.args.ordinals.now in
    let of : CohortOf = record { plan = plan; table = c.args.table; unit = c.args.born } in
    let limits : IsInLimits plan = subst IsInLimits c.plan.ensures c.schema-sound.ensures.limits in
    let within : c.args.born ≤ last_unit plan = omega (arith, c.requires.born, c.requires.unit) in
    let index : ℕ → ℕ = λ j. j - first_ordinal (table_of plan c.args.table).births c.args.born in
    map-each (change_unit (generator_of plan) c.args.table c.args.t) ordinals c.loop-column.changes c.loop-column.invariant.same_length (λ i below.
    let j : ℕ = get_or ordinals i 0 in
    let due : ℕ = due_for plan c.args.table c.args.t c.args.born j in
    c.loop-column.invariant.changes i below
    ∙ ap (λ (references : List Reference). last_change c.args.t due (map (loss_in of (index j)) references)) (all_columns plan c.args.table c.loop-column.column c.columns-ready-items.result.now
    (c.columns-ready-items.ensures.columns ∙ ap (λ (p : Project). ready_columns (layout_of p) c.args.table) c.plan-2.ensures) c.loop-column-test.false)
    ∙ due_for-losses plan c.args.table c.args.born within j (c.requires.lie i 0 below) limits c.requires.table c.args.t c.requires.born c.requires.unit)

pub returns-clause-steps : goal.returns-clause-steps
returns-clause-steps g c =
    let plan : Project = c.args.self.now in
    let of : CohortOf = record { plan = plan; table = c.args.table; unit = c.args.born } in
    let many : ℕ = length c.args.ordinals.now in
    omega (
      arith,
      c.loop-column.invariant.steps,
      ap (λ (cost : ℕ). many * cost) (loss_cost-parts plan (subst IsInLimits c.plan.ensures c.schema-sound.ensures.limits) c.args.table c.requires.table),
      ap (λ (references : List Reference). many * sum_by (cost_of_reference of) (filter (λ (reference : Reference). reference.nulls) references)) (all_columns plan c.args.table c.loop-column.column c.columns-ready-items.result.now
          (c.columns-ready-items.ensures.columns ∙ ap (λ (p : Project). ready_columns (layout_of p) c.args.table) c.plan-2.ensures) c.loop-column-test.false),
    )
