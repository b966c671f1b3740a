use Rattle.std.proofs.Common.{◌≡◌, ◌<◌, ◌≤◌, ◌+◌, ℕ, Option, Some, length, ap, arith, subst, sym, ◌∙◌}
use Rattle.std.specs.Prelude.{IfSome}
use Rattle.std.specs.Option.{option_map}
use Rattle.cohort_sizes.specs.Births.{born_count}
use Rattle.schema_facts.specs.Dictionaries.{Project}
use Rattle.schema_facts.specs.Layout.{layout_of}
use Rattle.schema_facts.specs.Lineage.{one_if}
use Rattle.schema_facts.specs.References.{Reference}
use Rattle.life_intervals.specs.CohortParents.{held_cost, held_in, reference_by}
use Rattle.life_intervals.specs.Generator.{generator_of, last_unit, rows_in_all, table_of}
use Rattle.life_intervals.specs.Keys.{key_of}
use Rattle.cohort_sizes.proofs.CohortLemmas.{born_count-le}
use Rattle.life_intervals.proofs.CohortParentLemmas.{parent_below}
use Rattle.row_lines.specs.CohortLines.{LinesOf, held_for}
use Rattle.row_lines.proofs.CohortFieldLemmas.{AreFieldsOf-view}
use Rattle.row_lines.proofs.cohort_fields.CohortFields.held_key.Goals as goal
use Rattle.row_lines.proofs.cohort_fields.CohortFields.held_key.Goals.{After-found_held_parent}

-- the plan that is kept
plan_is : (g : _) (c : After-found_held_parent g) → c.self.inside.rows.now ≡ c.args.self.now.plan
plan_is g c = ap (λ (of : LinesOf). of.plan) c.self.view_is

-- the parent is the one that the row still has
held_is : (g : _) (c : After-found_held_parent g) → c.found_held_parent.result ≡ held_for c.args.self.now c.args.index (reference_by c.args.column c.args.reference.now)
held_is g c =
    let reference : Reference = reference_by c.args.column c.args.reference.now in
    c.found_held_parent.ensures.held
    ∙ ap (λ (index : ℕ). held_in (record { plan = c.self.inside.rows.now; table = c.self.inside.table; unit = c.found-row.result.born }) index c.self.inside.unit reference) c.found-row.ensures.index
    ∙ ap (λ (born : ℕ). held_in (record { plan = c.self.inside.rows.now; table = c.self.inside.table; unit = born }) c.args.index c.self.inside.unit reference) c.found-row.ensures.born
    ∙ ap (λ (of : LinesOf). held_in (record { plan = of.plan; table = of.table; unit = c.args.self.now.born }) c.args.index of.unit reference) c.self.view_is

-- it takes as many steps as that says
steps_are : (g : _) (c : After-found_held_parent g) → c.found_held_parent.new.steps ≤ c.args.steps.now + held_cost (layout_of c.args.self.now.plan).tables (reference_by c.args.column c.args.reference.now)
steps_are g c =
    subst (λ (plan : Project). c.found_held_parent.new.steps ≤ c.args.steps.now + held_cost (layout_of plan).tables (reference_by c.args.column c.args.reference.now)) (plan_is g c) c.found_held_parent.ensures.steps

pub key-requires-clause-table : goal.key-requires-clause-table
key-requires-clause-table g c =
    let lines : LinesOf = c.args.self.now in
    let here = AreFieldsOf-view _ lines c.self.inside.columns.now c.self.inside.first c.self.view_is c.self.invariant in
    let same : c.self.inside.rows.now ≡ lines.plan = ap (λ (of : LinesOf). of.plan) c.self.view_is in
    subst (λ (plan : Project). c.args.reference.now.parent < length plan.schema.tables) (sym same)
    (parent_below lines.plan here.sound lines.table c.args.column c.args.reference.now here.table c.requires.reference)

pub key-requires-clause-row : goal.key-requires-clause-row
key-requires-clause-row g c =
    let lines : LinesOf = c.args.self.now in
    let here = AreFieldsOf-view _ lines c.self.inside.columns.now c.self.inside.first c.self.view_is c.self.invariant in
    let same : c.self.inside.rows.now ≡ lines.plan = ap (λ (of : LinesOf). of.plan) c.self.view_is in
    let parent : ℕ = c.args.reference.now.parent in
    let born : c.in-Some.parent < born_count (table_of lines.plan parent).births lines.born =
    subst (λ (unit : ℕ). c.in-Some.parent < born_count (table_of lines.plan parent).births unit) c.found-row.ensures.born
    (subst (λ (plan : Project). c.in-Some.parent < born_count (table_of plan parent).births c.found-row.result.born) same
    (subst (λ (o : Option ℕ). IfSome o (λ p. p < born_count (table_of c.self.inside.rows.now parent).births c.found-row.result.born)) c.in-Some.is c.found_held_parent.ensures.born)) in
    subst (λ (plan : Project). c.in-Some.parent < rows_in_all plan parent) (sym same)
    (omega (arith, born, born_count-le (table_of lines.plan parent).births lines.born (last_unit lines.plan) (omega (arith, here.born, here.unit))))

pub returns-in-Some-clause-key : goal.returns-in-Some-clause-key
returns-in-Some-clause-key g c =
    let lines : LinesOf = c.args.self.now in
    let same : c.self.inside.rows.now ≡ lines.plan = ap (λ (of : LinesOf). of.plan) c.self.view_is in
    let parent : ℕ = c.args.reference.now.parent in
    ap Some (c.key.ensures.key ∙ ap (λ (plan : Project). key_of (generator_of plan) parent (last_unit plan) c.in-Some.parent) same)
    ∙ ap (option_map (key_of (generator_of lines.plan) parent (last_unit lines.plan))) (sym c.in-Some.is ∙ held_is g (goal.at.returns-in-Some-clause-key g c).After-found_held_parent)

pub returns-in-Some-clause-limit : goal.returns-in-Some-clause-limit
returns-in-Some-clause-limit g c = c.key.type_inv

pub returns-in-Some-clause-steps : goal.returns-in-Some-clause-steps
returns-in-Some-clause-steps g c =
    let lines : LinesOf = c.args.self.now in
    let same : c.self.inside.rows.now ≡ lines.plan = ap (λ (of : LinesOf). of.plan) c.self.view_is in
    omega (
      arith,
      steps_are g (goal.at.returns-in-Some-clause-steps g c).After-found_held_parent,
      c.key.ensures.steps,
      ap (λ (plan : Project). one_if (table_of plan c.args.reference.now.parent).key.scramble) same,
    )

pub returns-in-None-clause-key : goal.returns-in-None-clause-key
returns-in-None-clause-key g c =
    let lines : LinesOf = c.args.self.now in
    ap (option_map (key_of (generator_of lines.plan) c.args.reference.now.parent (last_unit lines.plan)))
    (sym c.in-None.is ∙ held_is g (goal.at.returns-in-None-clause-key g c).After-found_held_parent)

pub returns-in-None-clause-steps : goal.returns-in-None-clause-steps
returns-in-None-clause-steps g c = omega (arith, steps_are g (goal.at.returns-in-None-clause-steps g c).After-found_held_parent)
