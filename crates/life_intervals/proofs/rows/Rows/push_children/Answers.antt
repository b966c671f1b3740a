use Rattle.std.proofs.Common.{◌≡◌, ◌≤◌, ◌<◌, ◌+◌, ◌*◌, ◌++◌, ℕ, List, ap, arith, length, subst, sym, take, ◌∙◌}
use Rattle.std.proofs.Math.Nat.{add-mul}
use Rattle.std.proofs.lemmas.Nat.{mul-le}
use Rattle.philox_seeds.specs.SeedTree.{deal_seed}
use Rattle.id_permutation.specs.Order.{Arrangement, order_steps}
use Rattle.schema_plan.specs.declared.ready.ReadyReference.{ReadyReference}
use Rattle.schema_facts.specs.Layout.{layout_of}
use Rattle.schema_facts.specs.Lineage.{one_if}
use Rattle.std.specs.Prelude.{All, OnErr, Result, Ok, Err}
use Rattle.std.specs.List.{flat_map}
use Rattle.std.proofs.lemmas.List.{take_all}
use Rattle.cohort_sizes.specs.Births.{cohort_size}
use Rattle.schema_facts.specs.Dictionaries.{Project}
use Rattle.schema_plan.specs.Limits.{IsInLimits}
use Rattle.life_intervals.specs.declared.window.CandidateWindow.{CandidateWindow}
use Rattle.life_intervals.specs.Blocks.{places_of_parent}
use Rattle.life_intervals.specs.Children.{child_at, children_of_each}
use Rattle.life_intervals.specs.CohortParents.{deal_by, reference_by, window_by}
use Rattle.life_intervals.specs.Generator.{table_of}
use Rattle.life_intervals.proofs.AppendLemmas.{AreAppended-places, drop-behind, steps-places}
use Rattle.life_intervals.proofs.ChildLemmas.{All-places, children-ready, window-count}
use Rattle.life_intervals.proofs.CohortParentLemmas.{limits_of, parent_below}
use Rattle.life_intervals.proofs.DealLemmas.{order_steps-deal_of}
use Rattle.life_intervals.proofs.rows.Rows.push_children.Goals as goal

pub window-window-requires-clause-parent : goal.window-window-requires-clause-parent
window-window-requires-clause-parent g c =
    parent_below c.args.self.now (subst IsInLimits c.plan.ensures c.schema-limits.ensures.limits) c.args.table c.args.column c.args.reference.now c.requires.table c.requires.reference

pub push_places_of-requires-clause-count : goal.push_places_of-requires-clause-count
push_places_of-requires-clause-count g c =
    omega (
      arith,
      window-count c.args.self.now (subst IsInLimits c.plan.ensures c.schema-limits.ensures.limits) c.args.table c.args.unit c.args.column c.args.reference.now c.requires.table c.requires.unit c.requires.reference,
      ap (λ (w : CandidateWindow). w.count) c.window-window.ensures,
    )

pub push_places_of-requires-clause-spread : goal.push_places_of-requires-clause-spread
push_places_of-requires-clause-spread g c =
    (limits_of c.args.self.now (subst IsInLimits c.plan.ensures c.schema-limits.ensures.limits) c.args.table c.args.column c.args.reference.now c.requires.table c.requires.reference).spread

pub put_rows_from-requires-clause-below : goal.put_rows_from-requires-clause-below
put_rows_from-requires-clause-below g c =
    let plan : Project = c.args.self.now in
    let window : CandidateWindow = c.window-window.result in
    let places : List ℕ → List ℕ = flat_map (places_of_parent c.args.reference.now.spread c.deal-deal.result window.first c.cohort-size.result.size) in
    let size_is : c.cohort-size.result.size ≡ cohort_size (table_of plan c.args.table).births c.args.unit =
    c.cohort-size.ensures.size ∙ ap (λ (p : Project). cohort_size (table_of p c.args.table).births c.args.unit) c.plan-3.ensures in
    subst (All (λ place. place < cohort_size (table_of plan c.args.table).births c.args.unit))
    (sym (
    drop-behind c.args.children.now.items c.loop-parent.children.items (places (take c.loop-parent.parent-index c.args.parents.now)) c.len-from.result
    (omega (arith, c.len-from.ensures, c.args.children.now.ok.0)) c.loop-parent.invariant.places))
    (All-places c.args.reference.now.spread c.deal-deal.result window.first c.cohort-size.result.size (cohort_size (table_of plan c.args.table).births c.args.unit) (omega (arith, size_is))
    (take c.loop-parent.parent-index c.args.parents.now))

pub returns-clause-children : goal.returns-clause-children
returns-clause-children g c =
    let plan : Project = c.args.self.now in
    let window : CandidateWindow = c.window-window.result in
    let places : List ℕ → List ℕ = flat_map (places_of_parent c.args.reference.now.spread c.deal-deal.result window.first c.cohort-size.result.size) in
    let size_is : c.cohort-size.result.size ≡ cohort_size (table_of plan c.args.table).births c.args.unit =
    c.cohort-size.ensures.size ∙ ap (λ (p : Project). cohort_size (table_of p c.args.table).births c.args.unit) c.plan-3.ensures in
    AreAppended-places (child_at plan c.args.table c.args.column c.args.unit)
    (children_of_each plan c.args.table (reference_by c.args.column c.args.reference.now) c.args.unit c.args.parents.now) c.args.children.now.items c.loop-parent.children.items c.put_rows_from.new.rows.items
    (places c.args.parents.now) c.len-from.result
    (omega (arith, c.len-from.ensures, c.args.children.now.ok.0))
    (c.loop-parent.invariant.places ∙ ap (λ (parents : List ℕ). c.args.children.now.items ++ places parents) (take_all c.loop-parent.parent-index c.args.parents.now c.loop-parent-test.false))
    c.put_rows_from.ensures.rows
    (children-ready plan (subst IsInLimits c.plan.ensures c.schema-limits.ensures.limits) c.args.table c.requires.table c.args.unit c.requires.unit c.args.column c.args.reference.now c.requires.reference c.deal-deal.result c.deal-deal.ensures window c.window-window.ensures c.cohort-size.result.size size_is c.args.parents.now)

pub returns-clause-steps : goal.returns-clause-steps
returns-clause-steps g c =
    let plan : Project = c.args.self.now in
    let window : CandidateWindow = c.window-window.result in
    let places : List ℕ → List ℕ = flat_map (places_of_parent c.args.reference.now.spread c.deal-deal.result window.first c.cohort-size.result.size) in
    let size_is : c.cohort-size.result.size ≡ cohort_size (table_of plan c.args.table).births c.args.unit =
    c.cohort-size.ensures.size ∙ ap (λ (p : Project). cohort_size (table_of p c.args.table).births c.args.unit) c.plan-3.ensures in
    let took = steps-places (child_at plan c.args.table c.args.column c.args.unit)
    (children_of_each plan c.args.table (reference_by c.args.column c.args.reference.now) c.args.unit c.args.parents.now) c.args.children.now.items c.loop-parent.children.items
    (places c.args.parents.now) c.len-from.result 1 c.put_rows_from.new.steps c.loop-parent.steps
    (omega (arith, c.len-from.ensures, c.args.children.now.ok.0))
    (c.loop-parent.invariant.places ∙ ap (λ (parents : List ℕ). c.args.children.now.items ++ places parents) (take_all c.loop-parent.parent-index c.args.parents.now c.loop-parent-test.false))
    (children-ready plan (subst IsInLimits c.plan.ensures c.schema-limits.ensures.limits) c.args.table c.requires.table c.args.unit c.requires.unit c.args.column c.args.reference.now c.requires.reference c.deal-deal.result c.deal-deal.ensures window c.window-window.ensures c.cohort-size.result.size size_is c.args.parents.now)
    c.put_rows_from.ensures.steps in
    let one : ℕ = one_if c.args.reference.now.drawn in
    omega (arith, took, c.loop-parent.invariant.steps, mul-le c.loop-parent.parent-index one (length c.args.parents.now) one c.loop-parent.invariant.within (omega arith))

-- an order of candidates takes a step where the reference is drawn
steps_of : (plan : Project) (table column : ℕ) (ready : ReadyReference) (unit : ℕ) (deal : Arrangement) → deal ≡ deal_by plan table column ready unit → order_steps deal ≡ one_if ready.drawn
steps_of plan table column ready unit deal is = ap order_steps is ∙ order_steps-deal_of ready.drawn (deal_seed (layout_of plan).seed table column unit) (window_by plan ready unit).count

pub returns-clause-least : goal.returns-clause-least
returns-clause-least g c = omega (arith, c.loop-parent.invariant.least, c.put_rows_from.ensures.steps)

pub returns-in_err-push_places_of-clause-least : goal.returns-in_err-push_places_of-clause-least
returns-in_err-push_places_of-clause-least g c = omega (arith, c.loop-parent.invariant.least, c.push_places_of.ensures.least)

-- one row more is within all of them
one_more : (i n one s a e : ℕ) → i < n → a ≤ s + i * one → e ≤ a + one → e ≤ s + n * one
one_more i n one s a e below before after = omega (arith, before, after, mul-le (i + 1) one n one (omega (arith, below)) (omega arith), add-mul i 1 one)

-- what holds anyway holds where memory is wanting
at_memory : {A E P : Type 0} (result : Result A E) → P → OnErr result P
at_memory (Ok done) holds = tt
at_memory (Err fault) holds = holds

pub returns-in_err-push_places_of-clause-memory : goal.returns-in_err-push_places_of-clause-memory
returns-in_err-push_places_of-clause-memory g c =
    at_memory c.from_residual.result
    (one_more c.loop-parent.parent-index (length c.args.parents.now) (one_if c.args.reference.now.drawn) c.args.steps.now c.loop-parent.steps c.push_places_of.new.steps c.loop-parent-test.true c.loop-parent.invariant.steps
    (omega (arith, c.push_places_of.ensures.steps, steps_of c.args.self.now c.args.table c.args.column c.args.reference.now c.args.unit c.deal-deal.result c.deal-deal.ensures)))

pub returns-in_err-push_places_of-clause-steps : goal.returns-in_err-push_places_of-clause-steps
returns-in_err-push_places_of-clause-steps g c =
    let took =
    one_more c.loop-parent.parent-index (length c.args.parents.now) (one_if c.args.reference.now.drawn) c.args.steps.now c.loop-parent.steps c.push_places_of.new.steps c.loop-parent-test.true c.loop-parent.invariant.steps
    (omega (arith, c.push_places_of.ensures.steps, steps_of c.args.self.now c.args.table c.args.column c.args.reference.now c.args.unit c.deal-deal.result c.deal-deal.ensures)) in
    omega (arith, took)
