use Rattle.std.proofs.Common.{◌≡◌, ◌+◌, Some, option_map, ap, ap₂, sym, ◌∙◌}
use Rattle.id_permutation.specs.Order.{Arrangement, place_in}
use Rattle.schema_facts.specs.Dictionaries.{Project}
use Rattle.life_intervals.specs.CohortOrders.{life_order}
use Rattle.life_intervals.specs.Generator.{table_of}
use Rattle.life_intervals.specs.Rows.{life_by}
use Rattle.life_intervals.proofs.FoundLemmas.{found-own_death}
use Rattle.life_intervals.proofs.rows.Rows.found_own_death.Goals as goal

pub returns-clause-death : goal.returns-clause-death
returns-clause-death g c =
    let plan : Project = c.args.self.now in
    let row = c.args.row in
    let life_is : Some c.in-Some.life ≡ (table_of plan c.args.table).life =
    c.in-Some.ensures.life ∙ ap (λ (p : Project). (table_of p c.args.table).life) c.plan.ensures in
    let placed : c.place-place.result ≡ place_in (life_order plan c.args.table row.born) row.index =
    c.place-place.ensures.exact ∙ ap (λ (order : Arrangement). place_in order row.index) c.order-order.ensures in
    ap (option_map (λ l. row.born + l)) (c.lifetime.ensures.exact ∙ ap₂ life_by life_is placed)
    ∙ sym (found-own_death plan c.args.table row c.requires.row)
