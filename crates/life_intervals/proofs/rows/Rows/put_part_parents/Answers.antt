use Rattle.std.proofs.Common.{◌<◌, ◌+◌, ◌^◌, ℕ, get_or, map, ap, ap₂, arith, subst, sym, ◌∙◌}
use Rattle.std.specs.Prelude.{All}
use Rattle.std.proofs.lemmas.List.Elements.{All-map}
use Rattle.std.proofs.lemmas.Simd.{map-map}
use Rattle.id_permutation.specs.Order.{Arrangement, place_in}
use Rattle.cohort_sizes.specs.Births.{born_count}
use Rattle.schema_facts.specs.Dictionaries.{Project}
use Rattle.schema_plan.specs.Limits.{IsInLimits}
use Rattle.life_intervals.specs.declared.orders.Purpose.TheVariants.{Parents}
use Rattle.life_intervals.specs.declared.window.CandidateWindow.{CandidateWindow}
use Rattle.life_intervals.specs.CohortOrders.{place_for}
use Rattle.life_intervals.specs.CohortParents.{deal_by, reference_by, window_by}
use Rattle.life_intervals.specs.Generator.{generator_of, last_unit, table_of}
use Rattle.life_intervals.specs.Intervals.{parent_of}
use Rattle.life_intervals.specs.References.{choice}
use Rattle.life_intervals.proofs.CohortParentLemmas.{limits_of, parent_below, window_limited}
use Rattle.life_intervals.proofs.PartLemmas.{found-lies, parent-born, place_for-parent, place_for-small}
use Rattle.life_intervals.proofs.RunLemmas.{map-all}
use Rattle.life_intervals.proofs.rows.Rows.put_part_parents.Goals as goal

pub window-window-requires-clause-parent : goal.window-window-requires-clause-parent
window-window-requires-clause-parent g c =
    parent_below c.args.self.now (subst IsInLimits c.plan.ensures c.schema-limits.ensures.limits) c.args.table c.args.column c.args.reference.now c.requires.table c.requires.reference

pub put_parents-requires-clause-places : goal.put_parents-requires-clause-places
put_parents-requires-clause-places g c =
    let plan : Project = c.args.self.now in
    let limits : IsInLimits plan = subst IsInLimits c.plan.ensures c.schema-limits.ensures.limits in
    subst (All (λ x. x < 2 ^ 40)) (sym c.put_places.ensures.places)
    (All-map (λ x. x < 2 ^ 40) (place_for plan c.args.table (Parents c.args.column) c.args.born) c.args.ordinals.now (λ k d inside.
    place_for-small plan c.args.table c.args.born c.requires.unit (get_or c.args.ordinals.now k d) (c.requires.lie k d inside) limits c.requires.table (Parents c.args.column)))

pub put_parents-requires-clause-first : goal.put_parents-requires-clause-first
put_parents-requires-clause-first g c =
    let plan : Project = c.args.self.now in
    let j : ℕ = get_or c.args.ordinals.now 0 0 in
    let found = found-lies plan c.args.table c.args.born c.requires.unit j (c.requires.lie 0 0 (omega (arith, c.requires.some))) in
    let is = window_limited plan (subst IsInLimits c.plan.ensures c.schema-limits.ensures.limits) c.args.table c.args.column c.args.born _ c.args.reference.now c.requires.table c.requires.reference c.requires.unit found.index in
    omega (arith, is.first, ap (λ (w : CandidateWindow). w.first) c.window-window.ensures)

pub put_parents-requires-clause-count : goal.put_parents-requires-clause-count
put_parents-requires-clause-count g c =
    let plan : Project = c.args.self.now in
    let j : ℕ = get_or c.args.ordinals.now 0 0 in
    let found = found-lies plan c.args.table c.args.born c.requires.unit j (c.requires.lie 0 0 (omega (arith, c.requires.some))) in
    let is = window_limited plan (subst IsInLimits c.plan.ensures c.schema-limits.ensures.limits) c.args.table c.args.column c.args.born _ c.args.reference.now c.requires.table c.requires.reference c.requires.unit found.index in
    omega (arith, is.count, ap (λ (w : CandidateWindow). w.count) c.window-window.ensures)

pub put_parents-requires-clause-spread : goal.put_parents-requires-clause-spread
put_parents-requires-clause-spread g c =
    (limits_of c.args.self.now (subst IsInLimits c.plan.ensures c.schema-limits.ensures.limits) c.args.table c.args.column c.args.reference.now c.requires.table c.requires.reference).spread

pub returns-clause-parents : goal.returns-clause-parents
returns-clause-parents g c =
    let plan : Project = c.args.self.now in
    let limits : IsInLimits plan = subst IsInLimits c.plan.ensures c.schema-limits.ensures.limits in
    let chosen : CandidateWindow → Arrangement → ℕ → ℕ = λ window deal place. window.first + place_in deal (choice c.args.reference.now.spread window.count place) in
    let window : CandidateWindow = window_by plan c.args.reference.now c.args.born in
    let deal : Arrangement = deal_by plan c.args.table c.args.column c.args.reference.now c.args.born in
    let place : ℕ → ℕ = place_for plan c.args.table (Parents c.args.column) c.args.born in
    c.put_parents.ensures.parents
    ∙ ap₂ (λ (w : CandidateWindow) (d : Arrangement). map (chosen w d) c.put_places.new.places) c.window-window.ensures c.deal-deal.ensures
    ∙ ap (map (chosen window deal)) c.put_places.ensures.places
    ∙ map-map (chosen window deal) place c.args.ordinals.now
    ∙ map-all (λ j. chosen window deal (place j)) (λ j. parent_of (generator_of plan) c.args.table (last_unit plan) j (reference_by c.args.column c.args.reference.now)) c.args.ordinals.now (λ k d inside.
    place_for-parent plan c.args.table c.args.born c.requires.unit (get_or c.args.ordinals.now k d) (c.requires.lie k d inside) limits c.requires.table c.args.column c.args.reference.now c.requires.reference)

pub returns-clause-born : goal.returns-clause-born
returns-clause-born g c =
    let plan : Project = c.args.self.now in
    let limits : IsInLimits plan = subst IsInLimits c.plan.ensures c.schema-limits.ensures.limits in
    let IsBorn : ℕ → Type 0 = λ parent. parent < born_count (table_of plan c.args.reference.now.parent).births c.args.born in
    subst (All IsBorn) (sym (returns-clause-parents g c))
    (All-map IsBorn (λ j. parent_of (generator_of plan) c.args.table (last_unit plan) j (reference_by c.args.column c.args.reference.now)) c.args.ordinals.now (λ k d inside.
    parent-born plan c.args.table c.args.born c.requires.unit (get_or c.args.ordinals.now k d) (c.requires.lie k d inside) limits c.requires.table c.args.column c.args.reference.now c.requires.reference))
