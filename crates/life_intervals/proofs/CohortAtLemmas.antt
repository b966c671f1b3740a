-- Which rows of a cohort are alive, and when they changed last, by their places in its orders.
use Rattle.std.proofs.Common.{◌≡◌, ◌<◌, ◌≤◌, ◌⊎◌, ℕ, ◌+◌, ◌-◌, ◌%◌, min, Bool, true, false, ◌||◌, Option, Some, None, List, [], ◌∷◌, inl, inr, length, map, take, is_some, option_map, refl, ap, arith, sym, ◌∙◌}
use Rattle.std.specs.Prelude.{IfSome, if◌then◌else◌}
use Rattle.std.specs.List.{list_any}
use Rattle.std.specs.Option.{option_map_or}
use Rattle.std.proofs.lemmas.Bool.{cases_Bool, cases_lt, le-ltb, lt-ltb, true≢false}
use Rattle.std.proofs.lemmas.Nat.{div-add-mod', mod_below}
use Rattle.id_permutation.specs.Order.{place_in}
use Rattle.philox_seeds.specs.SeedTree.{update_column}
use Rattle.cohort_sizes.specs.Births.{Births, birth, born_count, cohort_size, first_ordinal, index_at}
use Rattle.schema_facts.specs.Layout.{TableLayout, layout_of, table_at}
use Rattle.schema_plan.specs.Limits.{IsInLimits}
use Rattle.schema_facts.specs.References.{Reference, references_of}
use Rattle.schema_facts.specs.Lineage.{lesser_life, longest_life, sure_life}
use Rattle.life_intervals.specs.declared.lives.Survival.TheVariants.{Sure, Over}
use Rattle.life_intervals.specs.Changes.{change_by, change_span, due_by, first_due, has_nullings, last_change, last_due, may_change}
use Rattle.life_intervals.specs.CohortLives.{survival_by}
use Rattle.life_intervals.specs.CohortOrders.{life_order, update_order}
use Rattle.life_intervals.specs.CohortParents.{losses_in, parents_death_in}
use Rattle.life_intervals.specs.Generator.{Generator, generator_of, last_unit, table_of}
use Rattle.life_intervals.specs.Intervals.{Known, change_unit, is_after, known_of, known_tables, loss_by, own_death, own_death_by, parent_death_by}
use Rattle.life_intervals.specs.Rows.{life_by}
use Rattle.life_intervals.specs.Sound.{AreSound}
use Rattle.life_intervals.proofs.CohortAt.{CohortAt, change_in, cohort_of, death_in, due_in, is_live_in, ordinal_in, own_death_in, size_of, survival_of}
use Rattle.life_intervals.proofs.AcceptedLemmas.{AreSound-accepted, length-tables}
use Rattle.life_intervals.proofs.ChangeLemmas.{change-born, change-le, last_change-from, last_change-le}
use Rattle.cohort_sizes.proofs.CohortLemmas.{birth-first_ordinal, born_count-le, cohort-within}
use Rattle.life_intervals.proofs.CohortParentLemmas.{death-parents}
use Rattle.life_intervals.proofs.KnownLemmas.{IsSure-known_of, refers-of}
use Rattle.life_intervals.proofs.LifeLemmas.{death-later, due_by-none, losses_by-deaths, own_death-later}
use Rattle.life_intervals.proofs.LongestLifeLemmas.{EndsBy-known_of}
use Rattle.life_intervals.proofs.OrderLemmas.{first_due-update_order, life_by-life_order}

-- what a birth unit and an index tell, of the row that has them
by_index : {X : Type 0} (f : ℕ → ℕ → X) (table : TableLayout) (born unit index : ℕ) → born ≤ unit → index < cohort_size table.births born →
    f (birth table.births unit (first_ordinal table.births born + index)) (first_ordinal table.births born + index - first_ordinal table.births (birth table.births unit (first_ordinal table.births born + index))) ≡ f born index
by_index f table born unit index within below =
    let first : ℕ = first_ordinal table.births born in
    let over : first + index - first ≡ index = omega arith in
    ap (λ (b : ℕ). f b (first + index - first_ordinal table.births b)) (birth-first_ordinal table.births unit born index within below) ∙ ap (f born) over

pub own_death-index : (generator : Generator) (place born unit index : ℕ) → born ≤ unit → index < cohort_size (table_at generator.tables place).births born →
    own_death generator place unit (first_ordinal (table_at generator.tables place).births born + index) ≡ own_death_by generator.order place (table_at generator.tables place) born index
own_death-index generator place born unit index within below =
    by_index (own_death_by generator.order place (table_at generator.tables place)) (table_at generator.tables place) born unit index within below

pub change_unit-index : (generator : Generator) (place born unit index : ℕ) → born ≤ unit → index < cohort_size (table_at generator.tables place).births born →
    change_unit generator place unit (first_ordinal (table_at generator.tables place).births born + index)
    ≡ last_change unit (due_by generator.order place (table_at generator.tables place) born index unit)
    (map (loss_by generator.order (take place (known_tables generator)) born index) (references_of (table_at generator.tables place)))
change_unit-index generator place born unit index within below =
    let table : TableLayout = table_at generator.tables place in
    by_index (λ b i. change_by generator.order place table (map (loss_by generator.order (take place (known_tables generator)) b i) (references_of table)) b i unit) table born unit index within below

-- ---- lives

-- a row's own life ends at its place in the order of lives
pub own_death_in-place : (cohort : CohortAt) (index : ℕ) → cohort.born ≤ cohort.unit → index < size_of cohort →
    own_death_in cohort index ≡ option_map (λ l. cohort.born + l) (life_by (table_of cohort.plan cohort.table).life (place_in (life_order cohort.plan cohort.table cohort.born) index))
own_death_in-place cohort index within below =
    own_death-index (generator_of cohort.plan) cohort.table cohort.born cohort.unit index within below
    ∙ ap (option_map (λ l. cohort.born + l)) (sym (life_by-life_order cohort.plan cohort.table cohort.born index below))

-- the row is born by the last unit, in the cohort
row_is : (cohort : CohortAt) (index : ℕ) → cohort.unit ≤ last_unit cohort.plan → cohort.born ≤ cohort.unit → index < size_of cohort →
    (ordinal_in cohort index < born_count (table_of cohort.plan cohort.table).births cohort.unit)
    × (cohort.born ≡ birth (table_of cohort.plan cohort.table).births (last_unit cohort.plan) (ordinal_in cohort index))
    × (index ≡ index_at (table_of cohort.plan cohort.table).births (last_unit cohort.plan) (ordinal_in cohort index))
row_is cohort index last within below =
    let births : Births = (table_of cohort.plan cohort.table).births in
    let born_is : birth births (last_unit cohort.plan) (ordinal_in cohort index) ≡ cohort.born = birth-first_ordinal births (last_unit cohort.plan) cohort.born index (omega (arith, last, within)) below in
    let first_is : first_ordinal births (birth births (last_unit cohort.plan) (ordinal_in cohort index)) ≡ first_ordinal births cohort.born = ap (first_ordinal births) born_is in (
      omega (arith, below, cohort-within births cohort.born cohort.unit within),
      sym born_is,
      omega (arith, first_is),
    )

-- it dies by its own life or with the first of its parents
pub death_in-parents : (cohort : CohortAt) (index : ℕ) → IsInLimits cohort.plan → cohort.table < length cohort.plan.schema.tables → cohort.unit ≤ last_unit cohort.plan → cohort.born ≤ cohort.unit →
    index < size_of cohort → lesser_life (own_death_in cohort index) (parents_death_in (cohort_of cohort) index) ≡ death_in cohort index
death_in-parents cohort index limits place last within below =
    let generator : Generator = generator_of cohort.plan in
    let row = row_is cohort index last within below in
    let ordinal : ℕ = ordinal_in cohort index in
    ap (λ (own : Option ℕ). lesser_life own (parents_death_in (cohort_of cohort) index)) (sym (own_death-later generator cohort.table cohort.unit (last_unit cohort.plan) ordinal row.0 last))
    ∙ death-parents cohort.plan limits cohort.table cohort.born ordinal index place (omega (arith, row.0, born_count-le (table_of cohort.plan cohort.table).births cohort.unit (last_unit cohort.plan) last)) row.1 row.2
    ∙ death-later generator cohort.table cohort.unit (last_unit cohort.plan) ordinal row.0 last

-- whether it is alive, by its birth and its index
is_live-index : (cohort : CohortAt) (index : ℕ) → cohort.born ≤ cohort.unit → index < size_of cohort →
    is_live_in cohort index ≡ is_after ((known_of (generator_of cohort.plan) cohort.table).death cohort.born index) (cohort.born + (cohort.unit - cohort.born))
is_live-index cohort index within below =
    let known : Known = known_of (generator_of cohort.plan) cohort.table in
    let at : cohort.unit ≡ cohort.born + (cohort.unit - cohort.born) = omega (arith, within) in
    ap (λ (death : Option ℕ). is_after death cohort.unit) (by_index known.death (table_of cohort.plan cohort.table) cohort.born cohort.unit index within below)
    ∙ ap (is_after (known.death cohort.born index)) at

-- a life from a birth on ends after a unit where it lasts past its age then
is_after-age : (life : Option ℕ) (born unit : ℕ) → born ≤ unit → is_after (option_map (λ l. born + l) life) unit ≡ is_after life (unit - born)
is_after-age None born unit within = refl
is_after-age (Some life) born unit within = elim (cases_lt unit (born + life)) [
  | inl before ↦ lt-ltb unit (born + life) before ∙ sym (lt-ltb (unit - born) life (omega (arith, before, within)))
  | inr past ↦ le-ltb unit (born + life) past ∙ sym (le-ltb (unit - born) life (omega (arith, past)))
]

-- what lives say
sure-lasts : (sure longest : Option ℕ) (born unit : ℕ) → born ≤ unit → survival_by sure longest born unit ≡ Sure → is_after sure (unit - born) ≡ true
sure-lasts sure longest born unit within is = elim (cases_Bool (is_after (option_map (λ l. born + l) sure) unit)) [
  | inl lasts ↦ sym (is_after-age sure born unit within) ∙ lasts
  | inr ends ↦ elim (cases_Bool (is_after (option_map (λ l. born + l) longest) unit)) [
    | inl some ↦ let drawn = rw (ends, some) at is in absurd (cc)
    | inr none ↦ let over = rw (ends, none) at is in absurd (cc)
  ]
]

over-ends : (sure longest : Option ℕ) (born unit : ℕ) → born ≤ unit → survival_by sure longest born unit ≡ Over → is_after longest (unit - born) ≡ false
over-ends sure longest born unit within is = elim (cases_Bool (is_after (option_map (λ l. born + l) sure) unit)) [
  | inl lasts ↦ let surely = rw lasts at is in absurd (cc)
  | inr ends ↦ elim (cases_Bool (is_after (option_map (λ l. born + l) longest) unit)) [
    | inl some ↦ let drawn = rw (ends, some) at is in absurd (cc)
    | inr none ↦ sym (is_after-age longest born unit within) ∙ none
  ]
]

-- before the shortest life ends each row is alive
pub is_live_in-sure : (cohort : CohortAt) → IsInLimits cohort.plan → cohort.table < length cohort.plan.schema.tables → cohort.unit ≤ last_unit cohort.plan → cohort.born ≤ cohort.unit → survival_of cohort ≡ Sure →
    (index : ℕ) → index < size_of cohort → is_live_in cohort index ≡ true
is_live_in-sure cohort limits place last within sure index below =
    is_live-index cohort index within below
    ∙ IsSure-known_of (last_unit cohort.plan) (generator_of cohort.plan) (AreSound-accepted cohort.plan limits) cohort.table (omega (arith, place, length-tables cohort.plan))
    cohort.born index (cohort.unit - cohort.born) (omega (arith, last, within)) below
    (sure-lasts (sure_life (layout_of cohort.plan).tables cohort.table) (longest_life (layout_of cohort.plan).tables cohort.table) cohort.born cohort.unit within sure)

-- from the end of the longest on none is
pub is_live_in-over : (cohort : CohortAt) → IsInLimits cohort.plan → cohort.table < length cohort.plan.schema.tables → cohort.unit ≤ last_unit cohort.plan → cohort.born ≤ cohort.unit → survival_of cohort ≡ Over →
    (index : ℕ) → index < size_of cohort → is_live_in cohort index ≡ false
is_live_in-over cohort limits place last within over index below =
    is_live-index cohort index within below
    ∙ EndsBy-known_of (last_unit cohort.plan) (generator_of cohort.plan) (AreSound-accepted cohort.plan limits) cohort.table (omega (arith, place, length-tables cohort.plan))
    cohort.born index (cohort.unit - cohort.born) (omega (arith, last, within)) below
    (over-ends (sure_life (layout_of cohort.plan).tables cohort.table) (longest_life (layout_of cohort.plan).tables cohort.table) cohort.born cohort.unit within over)

-- ---- changes

-- what no test passes, neither passes
neither : (x y : Bool) → (x || y) ≡ false → (x ≡ false) × (y ≡ false)
neither true y none = absurd (true≢false none)
neither false y none = (refl, none)

-- where no reference becomes null, nothing is lost
no_losses : (unit change : ℕ) (d : Reference → Option ℕ) (references : List Reference) → list_any (λ (reference : Reference). reference.nulls) references ≡ false →
    last_change unit change (map (λ (reference : Reference). if reference.nulls then d reference else None) references) ≡ change
no_losses unit change d [] none = refl
no_losses unit change d (reference ∷ others) none =
    let parts = neither reference.nulls (list_any (λ (reference : Reference). reference.nulls) others) none in
    ap (λ (lost : Bool). last_change unit change ((if lost then d reference else None) ∷ map (λ (reference : Reference). if reference.nulls then d reference else None) others)) parts.0
    ∙ no_losses unit change d others parts.1

none-from_is_some : (update : Option ℕ) → is_some update ≡ false → update ≡ None
none-from_is_some None none = refl
none-from_is_some (Some period) none = absurd (true≢false none)

-- a due unit is no earlier than the birth
due-from : (update : Option ℕ) (unit born : ℕ) (place : ℕ → ℕ) → born ≤ option_map_or (λ period. last_due born (born + (1 + place period % period)) period unit) update born
due-from None unit born place = omega arith
due-from (Some period) unit born place =
    let first : ℕ = born + (1 + place period % period) in
    elim (cases_lt unit first) [
      | inl before ↦ rw (lt-ltb unit first before) (omega arith)
      | inr after ↦ rw (le-ltb unit first after) (omega (arith, after, div-add-mod' (unit - first) period))
    ]

-- a change after the birth is among the last units that changes may be in
span-reaches : (update : Option ℕ) (nulls : Bool) (unit born change : ℕ) (place : ℕ → ℕ) → IfSome update (λ period. 1 ≤ period) → born ≤ change →
    option_map_or (λ period. last_due born (born + (1 + place period % period)) period unit) update born ≤ change →
    (nulls ≡ false → change ≡ option_map_or (λ period. last_due born (born + (1 + place period % period)) period unit) update born) →
    (change ≡ born) ⊎ (unit < change + option_map_or (λ period. min period unit) update (if nulls then unit else 0))
span-reaches None false unit born change place some from due same = inl (same refl)
span-reaches None true unit born change place some from due same = elim (cases_lt born change) [
  | inl later ↦ inr (omega (arith, later))
  | inr early ↦ inl (omega (arith, early, from))
]
span-reaches (Some period) nulls unit born change place some from due same = elim (cases_lt born change) [
  | inr early ↦ inl (omega (arith, early, from))
  | inl later ↦
      let first : ℕ = born + (1 + place period % period) in
      let start : place period % period < period = mod_below (place period) period (omega (arith, some)) in
      elim (cases_lt unit first) [
        | inl before ↦ inr (omega (arith, before, later, start))
        | inr after ↦
            let rest : (unit - first) % period < period = mod_below (unit - first) period (omega (arith, some)) in
            let last : unit - (unit - first) % period ≤ change = rw (le-ltb unit first after) at due in
            inr (omega (arith, after, later, rest, last))
      ]
]

-- where rows are updated, the last due unit is by the place in the order of updates
pub due_in-some : (cohort : CohortAt) (index period : ℕ) → index < size_of cohort → (table_of cohort.plan cohort.table).update ≡ Some period → 1 ≤ period →
    last_due cohort.born (cohort.born + (1 + place_in (update_order cohort.plan cohort.table cohort.born) index % period)) period cohort.unit ≡ due_in cohort index
due_in-some cohort index period below is some =
    let generator : Generator = generator_of cohort.plan in
    let by : Option ℕ → ℕ =
    λ update. option_map_or (λ (p : ℕ). last_due cohort.born (first_due generator.order cohort.table cohort.born index p) p cohort.unit) update cohort.born in
    ap (λ (first : ℕ). last_due cohort.born first period cohort.unit) (first_due-update_order cohort.plan cohort.table cohort.born index period below is some)
    ∙ sym (ap by is)

-- where they aren't it is the birth
pub due_in-none : (cohort : CohortAt) (index : ℕ) → (table_of cohort.plan cohort.table).update ≡ None → cohort.born ≡ due_in cohort index
due_in-none cohort index is = sym (due_by-none (generator_of cohort.plan).order cohort.table (table_of cohort.plan cohort.table) cohort.born index cohort.unit is)

-- and so it is at the birth itself
pub due_in-birth : (cohort : CohortAt) (index : ℕ) → cohort.unit ≡ cohort.born → cohort.born ≡ due_in cohort index
due_in-birth cohort index at =
    let generator : Generator = generator_of cohort.plan in
    let table : TableLayout = table_of cohort.plan cohort.table in
    sym (
    ap (λ (unit : ℕ). due_by generator.order cohort.table table cohort.born index unit) at
    ∙ change-born table.update cohort.born (generator.order.place cohort.table update_column cohort.born index))

-- the last change is the last of the last due unit and of the losses
pub change_in-losses : (cohort : CohortAt) (index : ℕ) → IsInLimits cohort.plan → cohort.table < length cohort.plan.schema.tables → cohort.unit ≤ last_unit cohort.plan → cohort.born ≤ cohort.unit →
    index < size_of cohort → last_change cohort.unit (due_in cohort index) (losses_in (cohort_of cohort) index) ≡ change_in cohort index
change_in-losses cohort index limits place last within below =
    let generator : Generator = generator_of cohort.plan in
    let table : TableLayout = table_of cohort.plan cohort.table in
    let in_tables : cohort.table < length generator.tables = omega (arith, place, length-tables cohort.plan) in
    let sound : AreSound (last_unit cohort.plan) generator.tables = AreSound-accepted cohort.plan limits in
    ap (last_change cohort.unit (due_in cohort index))
    (sym (losses_by-deaths (last_unit cohort.plan) generator sound cohort.table in_tables cohort.born index (omega (arith, last, within)) below (last_unit cohort.plan) (omega (arith, last, within))
    (references_of table) (refers-of (last_unit cohort.plan) generator sound cohort.table in_tables)))
    ∙ sym (change_unit-index generator cohort.table cohort.born cohort.unit index within below)

-- where no reference becomes null it is the last due unit
pub change_in-due : (cohort : CohortAt) (index : ℕ) → cohort.born ≤ cohort.unit → index < size_of cohort → has_nullings (table_of cohort.plan cohort.table) ≡ false →
    due_in cohort index ≡ change_in cohort index
change_in-due cohort index within below none =
    let generator : Generator = generator_of cohort.plan in
    let table : TableLayout = table_of cohort.plan cohort.table in
    sym (
    change_unit-index generator cohort.table cohort.born cohort.unit index within below
    ∙ no_losses cohort.unit (due_in cohort index) (λ reference. parent_death_by generator.order (take cohort.table (known_tables generator)) cohort.born index reference) (references_of table) none)

-- and where rows aren't updated either it is the birth
pub change_in-none : (cohort : CohortAt) (index : ℕ) → cohort.born ≤ cohort.unit → index < size_of cohort → may_change (table_of cohort.plan cohort.table) ≡ false →
    cohort.born ≡ change_in cohort index
change_in-none cohort index within below never =
    let table : TableLayout = table_of cohort.plan cohort.table in
    let parts = neither (is_some table.update) (has_nullings table) never in
    due_in-none cohort index (none-from_is_some table.update parts.0) ∙ change_in-due cohort index within below parts.1

-- it is no earlier than the birth, and no later than the unit
pub change_in-from : (cohort : CohortAt) (index : ℕ) → cohort.born ≤ cohort.unit → index < size_of cohort → cohort.born ≤ change_in cohort index
change_in-from cohort index within below =
    let generator : Generator = generator_of cohort.plan in
    let table : TableLayout = table_of cohort.plan cohort.table in
    let losses : List (Option ℕ) = map (loss_by generator.order (take cohort.table (known_tables generator)) cohort.born index) (references_of table) in
    omega (
      arith,
      change_unit-index generator cohort.table cohort.born cohort.unit index within below,
      last_change-from cohort.unit (due_in cohort index) losses,
      due-from table.update cohort.unit cohort.born (λ period. generator.order.place cohort.table update_column cohort.born index),
    )

pub change_in-le : (cohort : CohortAt) (index : ℕ) → cohort.born ≤ cohort.unit → index < size_of cohort → change_in cohort index ≤ cohort.unit
change_in-le cohort index within below =
    let generator : Generator = generator_of cohort.plan in
    let table : TableLayout = table_of cohort.plan cohort.table in
    let losses : List (Option ℕ) = map (loss_by generator.order (take cohort.table (known_tables generator)) cohort.born index) (references_of table) in
    omega (
      arith,
      change_unit-index generator cohort.table cohort.born cohort.unit index within below,
      last_change-le cohort.unit (due_in cohort index) losses
          (change-le table.update cohort.unit cohort.born (first_due generator.order cohort.table cohort.born index) within),
    )

-- and where it isn't the birth, it is among the last units that changes of the table may be in
pub change_in-recent : (cohort : CohortAt) (index : ℕ) → cohort.born ≤ cohort.unit → index < size_of cohort → IfSome (table_of cohort.plan cohort.table).update (λ period. 1 ≤ period) →
    (change_in cohort index ≡ cohort.born) ⊎ (cohort.unit < change_in cohort index + change_span (table_of cohort.plan cohort.table) cohort.unit)
change_in-recent cohort index within below some =
    let generator : Generator = generator_of cohort.plan in
    let table : TableLayout = table_of cohort.plan cohort.table in
    let losses : List (Option ℕ) = map (loss_by generator.order (take cohort.table (known_tables generator)) cohort.born index) (references_of table) in
    span-reaches table.update (has_nullings table) cohort.unit cohort.born (change_in cohort index) (λ period. generator.order.place cohort.table update_column cohort.born index) some
    (change_in-from cohort index within below)
    (omega (
      arith,
      change_unit-index generator cohort.table cohort.born cohort.unit index within below,
      last_change-from cohort.unit (due_in cohort index) losses,
    ))
    (λ none. sym (change_in-due cohort index within below none))
