use Rattle.std.proofs.Common.{◌≡◌, ◌<◌, ◌+◌, ℕ, ap, ap₂, arith, subst, sym, ◌∙◌}
use Rattle.id_permutation.specs.Order.{Arrangement, place_in}
use Rattle.cohort_sizes.specs.Births.{born_count}
use Rattle.schema_facts.specs.Dictionaries.{Project}
use Rattle.schema_plan.specs.Limits.{IsInLimits}
use Rattle.life_intervals.specs.declared.window.CandidateWindow.{CandidateWindow}
use Rattle.life_intervals.specs.CohortOrders.{parent_order}
use Rattle.life_intervals.specs.CohortParents.{window_by}
use Rattle.life_intervals.specs.Generator.{table_of}
use Rattle.life_intervals.specs.References.{choice}
use Rattle.life_intervals.proofs.CohortParentLemmas.{limits_of, parent_below, parent_in-born, parent_in-choice, window_limited}
use Rattle.life_intervals.proofs.rows.Rows.found_parent.Goals as goal

pub window-window-requires-clause-parent : goal.window-window-requires-clause-parent
window-window-requires-clause-parent g c =
    let limits : IsInLimits c.args.self.now = subst IsInLimits c.plan.ensures c.schema-limits.ensures.limits in
    parent_below c.args.self.now limits c.args.table c.args.column c.args.reference.now c.requires.table c.requires.reference

pub parent-requires-clause-first : goal.parent-requires-clause-first
parent-requires-clause-first g c =
    let limits : IsInLimits c.args.self.now = subst IsInLimits c.plan.ensures c.schema-limits.ensures.limits in
    let is = window_limited c.args.self.now limits c.args.table c.args.column c.args.row.born c.args.row.index c.args.reference.now c.requires.table c.requires.reference c.requires.row.born c.requires.row.index in
    omega (arith, is.first, ap (λ (w : CandidateWindow). w.first) c.window-window.ensures)

pub parent-requires-clause-count : goal.parent-requires-clause-count
parent-requires-clause-count g c =
    let limits : IsInLimits c.args.self.now = subst IsInLimits c.plan.ensures c.schema-limits.ensures.limits in
    let is = window_limited c.args.self.now limits c.args.table c.args.column c.args.row.born c.args.row.index c.args.reference.now c.requires.table c.requires.reference c.requires.row.born c.requires.row.index in
    omega (arith, is.count, ap (λ (w : CandidateWindow). w.count) c.window-window.ensures)

pub parent-requires-clause-spread : goal.parent-requires-clause-spread
parent-requires-clause-spread g c =
    let limits : IsInLimits c.args.self.now = subst IsInLimits c.plan.ensures c.schema-limits.ensures.limits in
    (limits_of c.args.self.now limits c.args.table c.args.column c.args.reference.now c.requires.table c.requires.reference).spread

pub returns-clause-parent : goal.returns-clause-parent
returns-clause-parent g c =
    let plan : Project = c.args.self.now in
    let row = c.args.row in
    let limits : IsInLimits plan = subst IsInLimits c.plan.ensures c.schema-limits.ensures.limits in
    let placed : c.place-place.result ≡ place_in (parent_order plan c.args.table c.args.column row.born) row.index =
    c.place-place.ensures.exact ∙ ap (λ (order : Arrangement). place_in order row.index) c.order-order.ensures in
    let chosen : CandidateWindow → Arrangement → ℕ → ℕ = λ window deal place. window.first + place_in deal (choice c.args.reference.now.spread window.count place) in
    c.parent.ensures.parent
    ∙ ap (λ (window : CandidateWindow). chosen window c.deal-deal.result c.place-place.result) c.window-window.ensures
    ∙ ap₂ (chosen (window_by plan c.args.reference.now row.born)) c.deal-deal.ensures placed
    ∙ parent_in-choice plan limits c.args.table c.args.column row.born row.index c.args.reference.now c.requires.table c.requires.reference c.requires.row.born c.requires.row.index

pub returns-clause-born : goal.returns-clause-born
returns-clause-born g c =
    let plan : Project = c.args.self.now in
    let row = c.args.row in
    let limits : IsInLimits plan = subst IsInLimits c.plan.ensures c.schema-limits.ensures.limits in
    subst (λ (parent : ℕ). parent < born_count (table_of plan c.args.reference.now.parent).births row.born) (sym (returns-clause-parent g c))
    (parent_in-born plan limits c.args.table c.args.column row.born row.index c.args.reference.now c.requires.table c.requires.reference c.requires.row.born c.requires.row.index)
