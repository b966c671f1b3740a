use Rattle.std.proofs.Common.{◌≡◌, ℕ, Bool, [], eqb-true, length, arith, subst, sym, ◌∙◌}
use Rattle.std.specs.List.Sorted.{IsNonDecreasing}
use Rattle.cohort_sizes.specs.Births.{Births, first_ordinal}
use Rattle.schema_facts.specs.Dictionaries.{Project}
use Rattle.schema_plan.specs.Limits.{IsInLimits}
use Rattle.life_intervals.specs.CohortParents.{reference_by}
use Rattle.life_intervals.specs.Generator.{generator_of, table_of}
use Rattle.life_intervals.specs.Intervals.{death, dying, is_at}
use Rattle.update_box.specs.Candidates.{losing}
use Rattle.life_intervals.proofs.AppendLemmas.{AreAppended-none}
use Rattle.update_box.proofs.ChildLemmas.{children-all, children-next, children-none, children-within, losing-none_dies}
use Rattle.update_box.proofs.OrdinalLemmas.{none_of_none, rising-not_falling, rising-range}
use Rattle.update_box.proofs.candidates.push_losing.Goals as goal

pub loop-unit-init : goal.loop-unit-init
loop-unit-init g c = children-none c.args.rows.now c.args.table c.args.t (reference_by c.args.column c.args.reference.now) c.args.list.now.items c.args.steps.now

pub push_children_near-requires-clause-order : goal.push_children_near-requires-clause-order
push_children_near-requires-clause-order g c =
    let elder : Births = (table_of c.args.rows.now c.args.reference.now.parent).births in
    let dies : ℕ → Bool = λ ordinal. is_at (death (generator_of c.args.rows.now) c.args.reference.now.parent c.args.t ordinal) c.args.t in
    subst IsNonDecreasing (sym c.requires.parents) (rising-not_falling (dying (generator_of c.args.rows.now) c.args.reference.now.parent c.args.t) (rising-range dies (first_ordinal elder c.args.t)))

pub loop-unit-preserved : goal.loop-unit-preserved
loop-unit-preserved g c =
    let plan : Project = c.args.rows.now in
    let limits : IsInLimits plan = subst IsInLimits c.plan.ensures c.schema-limits.ensures.limits in
    children-next plan limits c.args.table c.args.column c.args.reference.now c.requires.table c.requires.reference c.loop-unit.unit c.args.t c.loop-unit-test.true c.requires.unit c.args.parents.now c.requires.parents
    c.args.list.now.items c.loop-unit.list.items c.push_children_near.new.list.items c.args.steps.now c.loop-unit.steps c.push_children_near.new.steps
    c.loop-unit.invariant c.in_ok-push_children_near.ensures.rows c.push_children_near.ensures.steps

pub returns-in_err-push_children_near-clause-steps : goal.returns-in_err-push_children_near-clause-steps
returns-in_err-push_children_near-clause-steps g c =
    let plan : Project = c.args.rows.now in
    let limits : IsInLimits plan = subst IsInLimits c.plan.ensures c.schema-limits.ensures.limits in
    children-within plan limits c.args.table c.args.column c.args.reference.now c.requires.table c.requires.reference c.loop-unit.unit c.args.t c.loop-unit-test.true c.requires.unit c.args.parents.now c.requires.parents
    c.args.list.now.items c.loop-unit.list.items c.args.steps.now c.loop-unit.steps c.push_children_near.new.steps c.loop-unit.invariant c.push_children_near.ensures.steps

pub returns-then-is_empty-clause-rows : goal.returns-then-is_empty-clause-rows
returns-then-is_empty-clause-rows g c =
    let plan : Project = c.args.rows.now in
    let limits : IsInLimits plan = subst IsInLimits c.plan.ensures c.schema-limits.ensures.limits in
    let none : c.args.parents.now ≡ [] = none_of_none c.args.parents.now (eqb-true (length c.args.parents.now) 0 (sym c.is_empty.ensures ∙ c.if-is_empty.true)) in
    AreAppended-none (losing plan c.args.table c.args.t (reference_by c.args.column c.args.reference.now)) c.args.list.now.items
    (sym (losing-none_dies plan limits c.args.table c.args.column c.args.reference.now c.requires.table c.requires.reference c.args.t c.requires.unit (sym c.requires.parents ∙ none)))

pub returns : goal.returns
returns g c =
    let all = children-all c.args.rows.now c.args.table c.args.t (reference_by c.args.column c.args.reference.now) c.loop-unit.unit (omega (arith, c.loop-unit-test.false, c.loop-unit.auto.unit-end))
    c.args.list.now.items c.loop-unit.list.items c.args.steps.now c.loop-unit.steps c.loop-unit.invariant in
    record { rows = all.0; steps = all.1 }
