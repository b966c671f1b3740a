use Rattle.std.proofs.Common.{◌≡◌, ◌≢◌, ◌<◌, ◌≤◌, ◌+◌, ◌-◌, ℕ, Some, refl, ap, arith, sym, ◌∙◌}
use Rattle.id_permutation.specs.Order.{Arrangement, place_in}
use Rattle.schema_facts.specs.declared.layout.Keys.{Keys}
use Rattle.schema_facts.specs.Dictionaries.{Project}
use Rattle.cohort_sizes.specs.Births.{birth, born_count, cohort_size, first_ordinal}
use Rattle.schema_facts.specs.Layout.{table_at}
use Rattle.life_intervals.specs.Generator.{Generator, generator_of, last_unit, rows_in_all, table_of}
use Rattle.life_intervals.specs.Keys.{key_of, place_in_cohort, OrdersCohorts}
use Rattle.cohort_sizes.proofs.CohortLemmas.{cohort-within}
use Rattle.life_intervals.proofs.KeyLemmas.{OrdersCohorts-generator_of, key_of-from_base, key_of-within, key_of-row, row_of_key-found}
use Rattle.life_intervals.proofs.OrderLemmas.{place_in-key_order}
use Rattle.life_intervals.proofs.rows.Rows.row_of_key.Goals as goal
use Rattle.life_intervals.proofs.rows.Rows.row_of_key.Goals.{then-key-base-via-then-key-base, then-key-base-via-else-key-base+then-key-base-2}

-- no row has a key below the base, or so far past it
no_row_before : (generator : Generator) (place key base last j : ℕ) → OrdersCohorts generator place → base ≡ (table_at generator.tables place).key.base → key < base →
    j < born_count (table_at generator.tables place).births last → key_of generator place last j ≢ key
no_row_before generator place key base last j orders base_is before born same =
    omega (arith, key_of-from_base generator place orders last j born, same, base_is, before)

no_row_past : (generator : Generator) (place key base last j rows : ℕ) → OrdersCohorts generator place → base ≡ (table_at generator.tables place).key.base →
    rows ≡ born_count (table_at generator.tables place).births last → base ≤ key → rows ≤ key - base → j < born_count (table_at generator.tables place).births last → key_of generator place last j ≢ key
no_row_past generator place key base last j rows orders base_is rows_is from past born same =
    omega (arith, key_of-within generator place orders last j born, same, base_is, rows_is, from, past)

no_row : (g : _) (c : goal.Joined-then-key-base g) (j : ℕ) → j < rows_in_all c.args.self.now c.args.table →
    key_of (generator_of c.args.self.now) c.args.table (last_unit c.args.self.now) j ≢ c.args.key
no_row g c j born =
    let plan : Project = c.args.self.now in
    let generator : Generator = generator_of plan in
    let last : ℕ = last_unit plan in
    let orders : OrdersCohorts generator c.args.table = OrdersCohorts-generator_of plan c.args.table in
    let base_is : c.keys-base.result.base ≡ (table_of plan c.args.table).key.base =
    ap (λ (keys : Keys). keys.base) c.keys-base.ensures ∙ ap (λ (p : Project). (table_of p c.args.table).key.base) c.plan-plan.ensures in
    elim c.then-key-base.branch [
      | then-key-base-via-then-key-base w ↦ no_row_before generator c.args.table c.args.key c.keys-base.result.base last j orders base_is w.if-key-base.true born
      | then-key-base-via-else-key-base+then-key-base-2 w ↦
          no_row_past generator c.args.table c.args.key c.keys-base.result.base last j w.born.result orders base_is
          (w.born.ensures.count
          ∙ ap (λ (p : Project). born_count (table_of p c.args.table).births w.units.result) c.plan-plan.ensures
          ∙ ap (born_count (table_of plan c.args.table).births) (w.units.ensures ∙ ap last_unit c.plan-plan.ensures))
          w.if-key-base.false w.if-key-base-2.true born
    ]

pub returns-then-key-base-clause-found : goal.returns-then-key-base-clause-found
returns-then-key-base-clause-found g c = λ j born same. absurd (no_row g c j born same)

pub returns-then-key-base-clause-none : goal.returns-then-key-base-clause-none
returns-then-key-base-clause-none g c = ((λ none. no_row g c), λ no. refl)

base_is : (g : _) (c : goal.After-unplace g) → c.keys-base.result.base ≡ (table_of c.args.self.now c.args.table).key.base
base_is g c = ap (λ (keys : Keys). keys.base) c.keys-base.ensures ∙ ap (λ (p : Project). (table_of p c.args.table).key.base) c.plan-plan.ensures

first_is : (g : _) (c : goal.After-unplace g) → c.cohort-first.result.first ≡ first_ordinal (table_of c.args.self.now c.args.table).births c.birth-unit.result
first_is g c = c.cohort-first.ensures.first ∙ ap (λ (p : Project). first_ordinal (table_of p c.args.table).births c.birth-unit.result) c.plan-plan.ensures

within_last : (g : _) (c : goal.After-unplace g) → c.birth-unit.result ≤ last_unit c.args.self.now
within_last g c = omega (arith, c.birth-unit.ensures.within, ap last_unit c.plan-plan.ensures)

below : (g : _) (c : goal.After-unplace g) → c.unplace.result < cohort_size (table_of c.args.self.now c.args.table).births c.birth-unit.result
below g c = omega (arith, c.unplace.ensures.below, ap (λ (order : Arrangement). order.size) c.order-order.ensures)

place_is : (g : _) (c : goal.After-unplace g) → place_in_cohort (generator_of c.args.self.now) c.args.table c.birth-unit.result c.unplace.result
    ≡ c.args.key - (table_of c.args.self.now c.args.table).key.base - c.cohort-first.result.first
place_is g c =
    sym (place_in-key_order c.args.self.now c.args.table c.birth-unit.result c.unplace.result (below g c))
    ∙ ap (λ (order : Arrangement). place_in order c.unplace.result) (sym c.order-order.ensures)
    ∙ c.unplace.ensures.redone
    ∙ ap (λ (base : ℕ). c.args.key - base - c.cohort-first.result.first) (base_is g c)

within : (g : _) (c : goal.After-unplace g) → c.cohort-first.result.first + c.unplace.result < rows_in_all c.args.self.now c.args.table
within g c =
    omega (arith, cohort-within (table_of c.args.self.now c.args.table).births c.birth-unit.result (last_unit c.args.self.now) (within_last g c), below g c, first_is g c)

unit_is : (g : _) (c : goal.After-unplace g) → c.birth-unit.result
    ≡ birth (table_of c.args.self.now c.args.table).births (last_unit c.args.self.now) (c.args.key - (table_of c.args.self.now c.args.table).key.base)
unit_is g c =
    c.birth-unit.ensures.unit
    ∙ ap (λ (p : Project). birth (table_of p c.args.table).births (last_unit p) (c.args.key - c.keys-base.result.base)) c.plan-plan.ensures
    ∙ ap (λ (base : ℕ). birth (table_of c.args.self.now c.args.table).births (last_unit c.args.self.now) (c.args.key - base)) (base_is g c)

begun : (g : _) (c : goal.After-unplace g) → c.cohort-first.result.first ≤ c.args.key - (table_of c.args.self.now c.args.table).key.base
begun g c =
    omega (
      arith,
      base_is g c,
      c.birth-unit.ensures.lies.begun,
      c.cohort-first.ensures.first,
    )

pub returns-clause-has_it : goal.returns-clause-has_it
returns-clause-has_it g c =
    key_of-row (generator_of c.args.self.now) c.args.table (last_unit c.args.self.now) c.args.key c.birth-unit.result c.cohort-first.result.first c.unplace.result
    (within_last g c) (first_is g c) (below g c) (omega (arith, base_is g c)) (begun g c) (place_is g c)

pub returns-clause-found : goal.returns-clause-found
returns-clause-found g c = λ j born same.
    ap Some (row_of_key-found (generator_of c.args.self.now) c.args.table (OrdersCohorts-generator_of c.args.self.now c.args.table) (last_unit c.args.self.now) j c.args.key
    c.birth-unit.result c.cohort-first.result.first c.unplace.result born same (unit_is g c) (first_is g c) (below g c) (place_is g c))

pub returns-clause-none : goal.returns-clause-none
returns-clause-none g c = ((λ none. absurd (cc)), λ no. absurd (no (c.cohort-first.result.first + c.unplace.result) (within g c) (returns-clause-has_it g c)))

pub returns-clause-within : goal.returns-clause-within
returns-clause-within = within
