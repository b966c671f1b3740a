use Rattle.std.proofs.Common.{◌≡◌, ◌<◌, ◌+◌, ◌-◌, ◌*◌, ℕ, length, map, ap, ap₂, arith, subst, sym, ◌∙◌}
use Rattle.std.specs.Prelude.{All}
use Rattle.std.proofs.lemmas.List.{length-map}
use Rattle.std.proofs.lemmas.Simd.{map-map}
use Rattle.std.proofs.lemmas.List.Elements.{All-map}
use Rattle.id_permutation.specs.Order.{Arrangement, order_steps, place_in}
use Rattle.cohort_sizes.specs.Births.{cohort_size, first_ordinal}
use Rattle.schema_facts.specs.Dictionaries.{Project}
use Rattle.life_intervals.specs.Generator.{table_of}
use Rattle.life_intervals.proofs.PartLemmas.{steps_for}
use Rattle.life_intervals.proofs.rows.Rows.put_places.Goals as goal

pub places-requires : goal.places-requires
places-requires g c =
    let births = (table_of c.args.self.now c.args.table).births in
    let first_is : c.cohort.result.first ≡ first_ordinal births c.args.born =
    c.cohort.ensures.first ∙ ap (λ (p : Project). first_ordinal (table_of p c.args.table).births c.args.born) c.plan.ensures in
    let size_is : c.order.result.size ≡ cohort_size births c.args.born = ap (λ (order : Arrangement). order.size) c.order.ensures in
    record {
      below = subst (All (λ x. x < c.order.result.size)) (sym c.put_indices.ensures)
          (All-map (λ x. x < c.order.result.size) (λ j. j - c.cohort.result.first) c.args.ordinals.now (λ k d inside.
          omega (arith, (c.requires.lie k d inside).begun, (c.requires.lie k d inside).not_ended, first_is, size_is)));
    }

pub returns-clause-places : goal.returns-clause-places
returns-clause-places g c =
    c.places.ensures.exact
    ∙ ap (map (place_in c.order.result)) c.put_indices.ensures
    ∙ map-map (place_in c.order.result) (λ j. j - c.cohort.result.first) c.args.ordinals.now
    ∙ ap₂ (λ (order : Arrangement) (first : ℕ). map (λ j. place_in order (j - first)) c.args.ordinals.now) c.order.ensures
    (c.cohort.ensures.first ∙ ap (λ (p : Project). first_ordinal (table_of p c.args.table).births c.args.born) c.plan.ensures)

pub returns-clause-steps : goal.returns-clause-steps
returns-clause-steps g c =
    let plan : Project = c.args.self.now in
    let some : 0 < cohort_size (table_of plan c.args.table).births c.args.born =
    omega (arith, (c.requires.lie 0 0 (omega (arith, c.requires.some))).begun, (c.requires.lie 0 0 (omega (arith, c.requires.some))).not_ended) in
    c.places.ensures.steps
    ∙ ap₂ (λ (n s : ℕ). c.args.steps.now + n * s)
    (ap length c.put_indices.ensures ∙ length-map c.args.ordinals.now (λ j. j - c.cohort.result.first))
    (ap order_steps c.order.ensures ∙ steps_for plan c.args.table c.args.purpose c.args.born some)
