use Rattle.std.proofs.Common.{◌≡◌, ◌<◌, ◌≤◌, ◌+◌, ◌-◌, ◌%◌, ℕ, true, false, Option, Some, None, get_or, length, option_map, ap, ap₂, arith, sym, ◌∙◌}
use Rattle.std.specs.Prelude.{nat_lt}
use Rattle.std.proofs.lemmas.List.{length-set}
use Rattle.id_permutation.specs.Order.{Arrangement, order_steps, place_in}
use Rattle.cohort_sizes.specs.Births.{LiesIn, first_ordinal}
use Rattle.schema_facts.specs.Lineage.{one_if}
use Rattle.schema_facts.specs.declared.layout.Span.{Span}
use Rattle.schema_facts.specs.Dictionaries.{Project}
use Rattle.life_intervals.specs.declared.orders.Purpose.TheVariants.{Lives}
use Rattle.life_intervals.specs.CohortOrders.{do_lives_differ, place_for}
use Rattle.life_intervals.specs.Generator.{generator_of, last_unit, table_of}
use Rattle.life_intervals.specs.Intervals.{is_after, own_death}
use Rattle.life_intervals.specs.Rows.{life_by}
use Rattle.life_intervals.proofs.PartLemmas.{place_for-own_death, some-row, steps_for}
use Rattle.life_intervals.proofs.RunLemmas.{map-same_value, put-next, steps-one_le}
use Rattle.life_intervals.proofs.rows.Rows.put_part_own_lives.Goals as goal

pub returns-in_default-clause-live : goal.returns-in_default-clause-live
returns-in_default-clause-live g c =
    let plan : Project = c.args.self.now in
    let life_is : None ≡ (table_of plan c.args.table).life =
    sym c.in_default.is ∙ c.life.ensures.life ∙ ap (λ (p : Project). (table_of p c.args.table).life) c.plan.ensures in
    map-same_value (λ j. is_after (own_death (generator_of plan) c.args.table c.args.t j) c.args.t) true c.args.ordinals.now c.put_live.new.live false
    (omega (arith, c.put_live.ensures.same_length, c.requires.same_length))
    (λ i below. c.put_live.ensures.same i (omega (arith, below, c.requires.same_length)))
    (λ k d inside.
    sym (
    ap (λ (death : Option _). is_after death c.args.t)
    (place_for-own_death plan c.args.table c.args.born (omega (arith, c.requires.born, c.requires.unit)) (get_or c.args.ordinals.now k d) (c.requires.lie k d inside) c.args.t c.requires.born
    ∙ ap (λ (life : Option Span). option_map (λ l. c.args.born + l) (life_by life (place_for plan c.args.table Lives c.args.born (get_or c.args.ordinals.now k d)))) (sym life_is))))

pub loop-i-preserved : goal.loop-i-preserved
loop-i-preserved g c =
    let plan : Project = c.args.self.now in
    let before = c.loop-i.invariant in
    let j : ℕ = get_or c.args.ordinals.now c.loop-i.i 0 in
    let inside : c.loop-i.i < length c.args.ordinals.now = omega (arith, c.loop-i-test.true, c.loop-i.auto.i-end) in
    let lies : LiesIn (table_of plan c.args.table).births c.args.born j = c.requires.lie c.loop-i.i 0 inside in
    let within : c.args.born ≤ last_unit plan = omega (arith, c.requires.born, c.requires.unit) in
    let life : Span = c.in-Some.life in
    let life_is : Some life ≡ (table_of plan c.args.table).life =
    c.in-Some.ensures.life ∙ ap (λ (p : Project). (table_of p c.args.table).life) c.plan.ensures in
    let first_is : c.cohort-first.result.first ≡ first_ordinal (table_of plan c.args.table).births c.args.born =
    c.cohort-first.ensures.first ∙ ap (λ (p : Project). first_ordinal (table_of p c.args.table).births c.args.born) c.plan-3.ensures in
    let placed : c.place-place.result ≡ place_for plan c.args.table Lives c.args.born j =
    c.place-place.ensures.exact ∙ ap₂ (λ (order : Arrangement) (first : ℕ). place_in order (j - first)) c.order-order.ensures first_is in
    let value : c.is_within_life.result ≡ is_after (own_death (generator_of plan) c.args.table c.args.t j) c.args.t =
    c.is_within_life.ensures
    ∙ ap₂ (λ (place lengths : ℕ). nat_lt c.args.t (c.args.born + (life.least + place % lengths))) placed c.new-lengths.ensures
    ∙ sym (
    ap (λ (death : Option ℕ). is_after death c.args.t)
    (place_for-own_death plan c.args.table c.args.born within j lies c.args.t c.requires.born
    ∙ ap (λ (life : Option Span). option_map (λ l. c.args.born + l) (life_by life (place_for plan c.args.table Lives c.args.born j))) (sym life_is))) in
    let cost : order_steps c.order-order.result ≡ one_if (do_lives_differ (table_of plan c.args.table).life) =
    ap order_steps c.order-order.ensures ∙ steps_for plan c.args.table Lives c.args.born (some-row plan c.args.table c.args.born within j lies) in
    record {
      same_length = length-set c.loop-i.live c.loop-i.i c.is_within_life.result ∙ before.same_length;
      so_far = put-next (λ j. is_after (own_death (generator_of plan) c.args.table c.args.t j) c.args.t) c.args.ordinals.now c.loop-i.live c.loop-i.i c.is_within_life.result 0 inside before.same_length before.so_far value;
      steps = steps-one_le (one_if (do_lives_differ (table_of plan c.args.table).life)) c.loop-i.i c.loop-i.steps c.args.steps.now (order_steps c.order-order.result) c.place-place.new.steps before.steps c.place-place.ensures.steps (omega (arith, cost));
    }
