use Rattle.std.proofs.Common.{◌≡◌, ap, arith, ◌∙◌}
use Rattle.id_permutation.specs.Order.{Arrangement, place_in}
use Rattle.schema_facts.specs.declared.layout.Keys.{Keys}
use Rattle.cohort_sizes.specs.Births.{first_ordinal}
use Rattle.schema_facts.specs.Dictionaries.{Project}
use Rattle.life_intervals.specs.Generator.{generator_of, table_of}
use Rattle.life_intervals.specs.Keys.{place_in_cohort}
use Rattle.life_intervals.proofs.FoundLemmas.{found-key}
use Rattle.life_intervals.proofs.OrderLemmas.{place_in-key_order}
use Rattle.life_intervals.proofs.rows.Rows.found_key.Goals as goal

pub returns-clause-in_cohort : goal.returns-clause-in_cohort
returns-clause-in_cohort g c =
    let plan : Project = c.args.self.now in
    let row = c.args.row in
    let same = c.plan-plan.ensures in
    let spot : c.place.result ≡ place_in_cohort (generator_of plan) c.args.table row.born row.index =
    c.place.ensures.exact
    ∙ ap (λ (order : Arrangement). place_in order row.index) c.order-order.ensures
    ∙ place_in-key_order plan c.args.table row.born row.index c.requires.row.index in
    omega (
      arith,
      spot,
      ap (λ (keys : Keys). keys.base) c.keys.ensures ∙ ap (λ (p : Project). (table_of p c.args.table).key.base) same,
      c.cohort-first.ensures.first ∙ ap (λ (p : Project). first_ordinal (table_of p c.args.table).births row.born) same,
    )

pub returns-clause-key : goal.returns-clause-key
returns-clause-key g c = returns-clause-in_cohort g c ∙ found-key c.args.self.now c.args.table c.args.row c.requires.row
