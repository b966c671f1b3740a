-- The orders of keys, lives and updates, as the code keeps them, are those that the seeds give.
use Rattle.std.proofs.Common.{◌≡◌, ◌<◌, ◌≤◌, ℕ, ◌+◌, ◌-◌, ◌%◌, Bool, true, false, ◌&&◌, Option, Some, None, inl, inr, refl, ap, arith, sym, ◌∙◌}
use Rattle.std.specs.Prelude.{if◌then◌else◌, nat_lt}
use Rattle.std.proofs.Math.Nat.{mod-one}
use Rattle.std.proofs.lemmas.Bool.{cases_lt, le-ltb, lt-ltb}
use Rattle.philox_seeds.specs.SeedTree.{key_order_seed, life_column, life_order_seed, update_column, update_order_seed}
use Rattle.id_permutation.specs.Order.{order_steps, place_by, place_in, steps_by}
use Rattle.id_permutation.specs.Placement as placement
use Rattle.schema_facts.specs.declared.layout.Span.{Span}
use Rattle.cohort_sizes.specs.Births.{cohort_size}
use Rattle.schema_facts.specs.Dictionaries.{Project}
use Rattle.schema_facts.specs.Layout.{layout_of}
use Rattle.schema_facts.specs.Lineage.{one_if}
use Rattle.life_intervals.specs.Changes.{first_due}
use Rattle.life_intervals.specs.CohortOrders.{do_lives_differ, do_updates_differ, key_order, life_order, update_order}
use Rattle.life_intervals.specs.Generator.{generator_of, table_of}
use Rattle.life_intervals.specs.Keys.{place_in_cohort}
use Rattle.life_intervals.specs.Rows.{life_by}

pub place_by-if : (drawn : Bool) (size seed index : ℕ) → index < size →
    place_by size (if drawn && nat_lt 0 size then Some seed else None) index ≡ (if drawn then placement.place size seed index else index)
place_by-if false size seed index below = refl
place_by-if true size seed index below =
    ap (λ (some : Bool). place_by size (if some then Some seed else None) index) (lt-ltb 0 size (omega (arith, below)))

pub steps_by-if : (drawn : Bool) (size seed : ℕ) → 0 < size → steps_by (if drawn && nat_lt 0 size then Some seed else None) ≡ one_if drawn
steps_by-if false size seed some = refl
steps_by-if true size seed some = ap (λ (test : Bool). steps_by (if test then Some seed else None)) (lt-ltb 0 size some)

-- a place by a cohort's order is that of the row's key
pub place_in-key_order : (project : Project) (table unit index : ℕ) → index < cohort_size (table_of project table).births unit →
    place_in (key_order project table unit) index ≡ place_in_cohort (generator_of project) table unit index
place_in-key_order project table unit index below =
    place_by-if (table_of project table).key.scramble (cohort_size (table_of project table).births unit) (key_order_seed (layout_of project).seed table unit) index below

-- it costs a step where the keys are scrambled
pub order_steps-key_order : (project : Project) (table unit : ℕ) → 0 < cohort_size (table_of project table).births unit →
    order_steps (key_order project table unit) ≡ one_if (table_of project table).key.scramble
order_steps-key_order project table unit some =
    steps_by-if (table_of project table).key.scramble (cohort_size (table_of project table).births unit) (key_order_seed (layout_of project).seed table unit) some

-- ---- lives

-- where lives don't differ, their places don't matter
life_by-places : (life : Option Span) (permuted index : ℕ) → life_by life (if do_lives_differ life then permuted else index) ≡ life_by life permuted
life_by-places None permuted index = refl
life_by-places (Some life) permuted index = elim (cases_lt life.least life.most) [
  | inl differ ↦ rw (lt-ltb life.least life.most differ) refl
  | inr alike ↦
      let one : life.most - life.least + 1 ≡ 1 = omega arith in
      rw (le-ltb life.least life.most alike, one) (ap (λ (n : ℕ). Some (life.least + n)) (mod-one index ∙ sym (mod-one permuted)))
]

-- a life by a cohort's order is that of the row
pub life_by-life_order : (project : Project) (table unit index : ℕ) → index < cohort_size (table_of project table).births unit →
    life_by (table_of project table).life (place_in (life_order project table unit) index) ≡ life_by (table_of project table).life ((generator_of project).order.place table life_column unit index)
life_by-life_order project table unit index below =
    let life : Option Span = (table_of project table).life in
    ap (life_by life) (place_by-if (do_lives_differ life) (cohort_size (table_of project table).births unit) (life_order_seed (layout_of project).seed table unit) index below)
    ∙ life_by-places life ((generator_of project).order.place table life_column unit index) index

-- it costs a step where lives differ
pub order_steps-life_order : (project : Project) (table unit : ℕ) → 0 < cohort_size (table_of project table).births unit →
    order_steps (life_order project table unit) ≡ one_if (do_lives_differ (table_of project table).life)
order_steps-life_order project table unit some =
    steps_by-if (do_lives_differ (table_of project table).life) (cohort_size (table_of project table).births unit) (life_order_seed (layout_of project).seed table unit) some

-- ---- updates

-- where all rows of a cohort change at the same units, their places don't matter
update-places : (period permuted index : ℕ) → 1 ≤ period → (if do_updates_differ (Some period) then permuted else index) % period ≡ permuted % period
update-places period permuted index some = elim (cases_lt 1 period) [
  | inl differ ↦ rw (lt-ltb 1 period differ) refl
  | inr alike ↦
      let one : period ≡ 1 = omega arith in
      rw (le-ltb 1 period alike) (rw one (mod-one index ∙ sym (mod-one permuted)))
]

-- a place by a cohort's order is that of the row, as far as the period tells
pub place_in-update_order : (project : Project) (table unit index period : ℕ) → index < cohort_size (table_of project table).births unit →
    (table_of project table).update ≡ Some period → 1 ≤ period →
    place_in (update_order project table unit) index % period ≡ (generator_of project).order.place table update_column unit index % period
place_in-update_order project table unit index period below is some =
    let permuted : ℕ = (generator_of project).order.place table update_column unit index in
    ap (λ (p : ℕ). p % period) (place_by-if (do_updates_differ (table_of project table).update) (cohort_size (table_of project table).births unit) (update_order_seed (layout_of project).seed table unit) index below)
    ∙ ap (λ (update : Option ℕ). (if do_updates_differ update then permuted else index) % period) is
    ∙ update-places period permuted index some

-- so it gives the first unit at which the row is due
pub first_due-update_order : (project : Project) (table unit index period : ℕ) → index < cohort_size (table_of project table).births unit →
    (table_of project table).update ≡ Some period → 1 ≤ period →
    unit + (1 + place_in (update_order project table unit) index % period) ≡ first_due (generator_of project).order table unit index period
first_due-update_order project table unit index period below is some = ap (λ (n : ℕ). unit + (1 + n)) (place_in-update_order project table unit index period below is some)

-- it costs a step where rows may change at different units
pub order_steps-update_order : (project : Project) (table unit : ℕ) → 0 < cohort_size (table_of project table).births unit →
    order_steps (update_order project table unit) ≡ one_if (do_updates_differ (table_of project table).update)
order_steps-update_order project table unit some =
    steps_by-if (do_updates_differ (table_of project table).update) (cohort_size (table_of project table).births unit) (update_order_seed (layout_of project).seed table unit) some
