use Rattle.std.proofs.Common.{◌≡◌, ◌<◌, ℕ, List, [], eqb-true, length, subst, sym, ap, ◌∙◌}
use Rattle.std.specs.Prelude.{OnOk}
use Rattle.cohort_sizes.specs.Births.{cohort_size}
use Rattle.schema_facts.specs.Dictionaries.{Project}
use Rattle.schema_plan.specs.Limits.{IsInLimits}
use Rattle.schema_facts.specs.References.{Reference}
use Rattle.life_intervals.specs.Children.{children_of_each}
use Rattle.life_intervals.specs.CohortKeys.{IsCohort}
use Rattle.life_intervals.specs.CohortParents.{reference_by}
use Rattle.life_intervals.specs.FoundAt.{AreAppended}
use Rattle.life_intervals.specs.Generator.{table_of}
use Rattle.life_intervals.proofs.AppendLemmas.{AreAppended-none}
use Rattle.life_intervals.proofs.CohortParentLemmas.{parent_below}
use Rattle.update_box.specs.Candidates.{children_near, in_window}
use Rattle.update_box.proofs.ChildLemmas.{children-empty, children_near-steps}
use Rattle.update_box.proofs.OrdinalLemmas.{none_of_none}
use Rattle.update_box.proofs.candidates.push_children_near.Goals as goal

pub near-near-requires-clause-parent : goal.near-near-requires-clause-parent
near-near-requires-clause-parent g c =
    let limits : IsInLimits c.args.rows.now = subst IsInLimits c.plan-plan.ensures c.schema-limits.ensures.limits in
    subst (λ (p : Project). c.args.reference.now.parent < length p.schema.tables) (sym c.plan-plan.ensures)
    (parent_below c.args.rows.now limits c.args.table c.args.column c.args.reference.now c.requires.table c.requires.reference)

-- an empty cohort has no children
pub returns-then-cohort-eq0-clause-rows : goal.returns-then-cohort-eq0-clause-rows
returns-then-cohort-eq0-clause-rows g c =
    let plan : Project = c.args.rows.now in
    let reference : Reference = reference_by c.args.column c.args.reference.now in
    let cohort : IsCohort plan c.args.table c.args.unit c.cohort.result = subst (λ (p : Project). IsCohort p c.args.table c.args.unit c.cohort.result) c.plan-plan.ensures c.cohort.ensures in
    let none : cohort_size (table_of plan c.args.table).births c.args.unit ≡ 0 = sym cohort.size ∙ c.if-cohort-eq0.true in
    AreAppended-none (children_near plan c.args.table reference c.args.unit c.args.parents.now) c.args.list.now.items
    (sym (children-empty plan c.args.table reference c.args.unit none (in_window plan reference c.args.unit c.args.parents.now)))

-- and neither have no parents
pub returns-then-is_empty-clause-rows : goal.returns-then-is_empty-clause-rows
returns-then-is_empty-clause-rows g c =
    let plan : Project = c.args.rows.now in
    let reference : Reference = reference_by c.args.column c.args.reference.now in
    let near : List ℕ = c.near-near.result.now in
    let is : near ≡ in_window plan reference c.args.unit c.args.parents.now = c.near-near.ensures ∙ ap (λ (p : Project). in_window p reference c.args.unit c.args.parents.now) c.plan-plan.ensures in
    let none : near ≡ [] = none_of_none near (eqb-true (length near) 0 (sym c.is_empty.ensures ∙ c.if-is_empty.true)) in
    AreAppended-none (children_near plan c.args.table reference c.args.unit c.args.parents.now) c.args.list.now.items
    (ap (children_of_each plan c.args.table reference c.args.unit) (sym none ∙ is))

pub returns : goal.returns
returns g c =
    let plan : Project = c.args.rows.now in
    let reference : Reference = reference_by c.args.column c.args.reference.now in
    let near : List ℕ = c.near-near.result.now in
    let is : near ≡ in_window plan reference c.args.unit c.args.parents.now = c.near-near.ensures ∙ ap (λ (p : Project). in_window p reference c.args.unit c.args.parents.now) c.plan-plan.ensures in
    let cohort : IsCohort plan c.args.table c.args.unit c.cohort.result = subst (λ (p : Project). IsCohort p c.args.table c.args.unit c.cohort.result) c.plan-plan.ensures c.cohort.ensures in
    record {
      rows = subst (λ (parents : List ℕ). OnOk c.push_children.result (AreAppended (children_of_each plan c.args.table reference c.args.unit parents) c.args.list.now.items c.push_children.new.children.items)) is c.push_children.ensures.children;
      steps = children_near-steps plan c.args.table reference c.args.unit c.args.parents.now near is (λ none. c.if-cohort-eq0.false (cohort.size ∙ none)) c.args.steps.now c.push_children.new.steps c.push_children.ensures.steps;
    }
