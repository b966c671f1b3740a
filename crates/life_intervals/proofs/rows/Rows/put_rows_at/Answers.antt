use Rattle.std.proofs.Common.{◌≡◌, ◌<◌, ◌≤◌, ◌+◌, ◌^◌, ℕ, List, ap, arith, get_or, map, refl, subst, sym, ◌∙◌}
use Rattle.std.specs.Prelude.{All}
use Rattle.std.proofs.lemmas.List.Elements.{All-map}
use Rattle.std.proofs.lemmas.Simd.{map-map}
use Rattle.id_permutation.specs.Order.{Arrangement, number_at, order_steps}
use Rattle.id_permutation.proofs.OrderLaws.{AreInversesBelow-number_at}
use Rattle.cohort_sizes.specs.Births.{Births, cohort_size, first_ordinal}
use Rattle.cohort_sizes.proofs.CohortLemmas.{cohort-within}
use Rattle.schema_plan.specs.Limits.{IsInLimits}
use Rattle.life_intervals.proofs.CohortParentLemmas.{row_limit}
use Rattle.schema_facts.specs.Dictionaries.{Project}
use Rattle.life_intervals.specs.CohortOrders.{is_drawn, order_for}
use Rattle.life_intervals.specs.Generator.{last_unit, table_of}
use Rattle.schema_facts.specs.Lineage.{one_if}
use Rattle.life_intervals.proofs.AppendLemmas.{steps-below}
use Rattle.life_intervals.proofs.PartLemmas.{steps_for}
use Rattle.life_intervals.proofs.rows.Rows.put_rows_at.Goals as goal

-- numbers are below the cohort's size
numbers_below : (order : Arrangement) (places numbers : List ℕ) (size : ℕ) → order.size ≡ size → size ≤ 2 ^ 40 → numbers ≡ map (number_at order) places → All (λ place. place < size) places → All (λ x. x < 2 ^ 40) numbers
numbers_below order places numbers size size_is small are below =
    subst (All (λ x. x < 2 ^ 40)) (sym are)
    (All-map (λ x. x < 2 ^ 40) (number_at order) places (λ k d inside.
    omega (arith, (AreInversesBelow-number_at order).within_back (get_or places k d) (omega (arith, below k d inside, size_is)), size_is, small)))

pub add_start-requires-clause-limits : goal.add_start-requires-clause-limits
add_start-requires-clause-limits g c =
    let births : Births = (table_of c.args.self.now c.args.table).births in
    numbers_below (order_for c.args.self.now c.args.table c.args.purpose c.args.born) c.args.places.now c.numbers.new.places (cohort_size births c.args.born) refl
    (omega (arith, cohort-within births c.args.born (last_unit c.args.self.now) c.requires.unit, row_limit c.args.self.now (subst IsInLimits c.plan.ensures c.schema-limits.ensures.limits) c.args.table c.requires.table))
    (c.numbers.ensures.exact ∙ ap (λ (order : Arrangement). map (number_at order) c.args.places.now) c.order.ensures)
    c.requires.below

pub returns-clause-rows : goal.returns-clause-rows
returns-clause-rows g c =
    let plan : Project = c.args.self.now in
    let order : Arrangement = order_for plan c.args.table c.args.purpose c.args.born in
    c.add_start.ensures
    ∙ ap (map (λ index. c.cohort.result.first + index)) (c.numbers.ensures.exact ∙ ap (λ (o : Arrangement). map (number_at o) c.args.places.now) c.order.ensures)
    ∙ map-map (λ index. c.cohort.result.first + index) (number_at order) c.args.places.now
    ∙ ap (λ (first : ℕ). map (λ place. first + number_at order place) c.args.places.now)
    (c.cohort.ensures.first ∙ ap (λ (p : Project). first_ordinal (table_of p c.args.table).births c.args.born) c.plan-2.ensures)

pub returns-clause-steps : goal.returns-clause-steps
returns-clause-steps g c =
    let plan : Project = c.args.self.now in
    steps-below c.args.places.now (cohort_size (table_of plan c.args.table).births c.args.born) (order_steps c.order.result)
    (one_if (is_drawn (table_of plan c.args.table) c.args.purpose)) c.numbers.new.steps c.args.steps.now c.requires.below
    (λ some. ap order_steps c.order.ensures ∙ steps_for plan c.args.table c.args.purpose c.args.born some) c.numbers.ensures.steps
