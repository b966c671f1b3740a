use Rattle.std.proofs.Common.{◌≡◌, ◌<◌, ◌+◌, ◌^◌, ℕ, get_or, map, ap, arith, subst, sym, ◌∙◌}
use Rattle.std.specs.Prelude.{All}
use Rattle.std.proofs.lemmas.Simd.{map-map}
use Rattle.std.proofs.lemmas.List.Elements.{All-map}
use Rattle.cohort_sizes.specs.Births.{first_ordinal}
use Rattle.schema_facts.specs.declared.layout.Keys as layout
use Rattle.schema_facts.specs.Dictionaries.{Project}
use Rattle.schema_plan.specs.Limits.{IsInLimits}
use Rattle.life_intervals.specs.declared.orders.Purpose.TheVariants.{Keys}
use Rattle.life_intervals.specs.CohortOrders.{place_for}
use Rattle.life_intervals.specs.Generator.{generator_of, last_unit, table_of}
use Rattle.life_intervals.specs.Keys.{key_of}
use Rattle.life_intervals.proofs.PartLemmas.{place_for-key, place_for-small}
use Rattle.life_intervals.proofs.RunLemmas.{map-all}
use Rattle.life_intervals.proofs.rows.Rows.put_part_keys.Goals as goal

pub add_start-requires-clause-limits : goal.add_start-requires-clause-limits
add_start-requires-clause-limits g c =
    let plan : Project = c.args.self.now in
    let limits : IsInLimits plan = subst IsInLimits c.plan-plan.ensures c.schema-limits.ensures.limits in
    subst (All (λ x. x < 2 ^ 40)) (sym c.put_places.ensures.places)
    (All-map (λ x. x < 2 ^ 40) (place_for plan c.args.table Keys c.args.born) c.args.ordinals.now (λ k d inside.
    place_for-small plan c.args.table c.args.born c.requires.unit (get_or c.args.ordinals.now k d) (c.requires.lie k d inside) limits c.requires.table Keys))

pub returns-clause-keys : goal.returns-clause-keys
returns-clause-keys g c =
    let plan : Project = c.args.self.now in
    let start : ℕ = c.keys.result.base + c.cohort.result.first in
    let start_is : start ≡ (table_of plan c.args.table).key.base + first_ordinal (table_of plan c.args.table).births c.args.born =
    omega (
      arith,
      ap (λ (keys : layout.Keys). keys.base) c.keys.ensures ∙ ap (λ (p : Project). (table_of p c.args.table).key.base) c.plan-plan.ensures,
      c.cohort.ensures.first ∙ ap (λ (p : Project). first_ordinal (table_of p c.args.table).births c.args.born) c.plan-plan.ensures,
    ) in
    c.add_start.ensures
    ∙ ap (map (λ j. start + j)) c.put_places.ensures.places
    ∙ map-map (λ j. start + j) (place_for plan c.args.table Keys c.args.born) c.args.ordinals.now
    ∙ map-all (λ j. start + place_for plan c.args.table Keys c.args.born j) (key_of (generator_of plan) c.args.table (last_unit plan)) c.args.ordinals.now (λ k d inside.
    ap (λ (s : ℕ). s + place_for plan c.args.table Keys c.args.born (get_or c.args.ordinals.now k d)) start_is
    ∙ place_for-key plan c.args.table c.args.born c.requires.unit (get_or c.args.ordinals.now k d) (c.requires.lie k d inside))
