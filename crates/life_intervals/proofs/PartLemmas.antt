-- Rows that are born at one unit, by their ordinals and their places.
use Rattle.std.proofs.Common.{◌≡◌, ◌<◌, ◌≤◌, ℕ, ◌+◌, ◌-◌, ◌%◌, ◌^◌, true, false, ◌⊎◌, length, Some, None, option_map, refl, ap, arith, subst, sym, ◌∙◌}
use Rattle.id_permutation.specs.Order.{order_steps, place_in}
use Rattle.id_permutation.proofs.OrderLaws.{IsBijectionBelow-place_in}
use Rattle.cohort_sizes.specs.Births.{Births, LiesIn, born_count, cohort_size, first_ordinal}
use Rattle.cohort_sizes.proofs.CohortLemmas.{cohort-within}
use Rattle.schema_plan.specs.declared.ready.ReadyReference.{ReadyReference}
use Rattle.schema_facts.specs.Dictionaries.{Project}
use Rattle.schema_plan.specs.Limits.{IsInLimits}
use Rattle.schema_facts.specs.Lineage.{one_if}
use Rattle.life_intervals.specs.declared.found.FoundRow.{FoundRow}
use Rattle.life_intervals.specs.declared.lives.Survival.TheVariants.{Over, Sure}
use Rattle.life_intervals.specs.declared.orders.Purpose.{Purpose}
use Rattle.life_intervals.specs.declared.orders.Purpose.TheVariants.{Keys, Lives, Parents, Updates}
use Rattle.life_intervals.specs.Changes.{change_span, has_nullings, last_change, last_due}
use Rattle.life_intervals.specs.CohortLives.{survival_at}
use Rattle.life_intervals.specs.CohortOrders.{due_for, is_drawn, order_for, order_seed, place_for}
use Rattle.life_intervals.specs.CohortParents.{IsReferenceOf, deal_by, losses_in, reference_by, window_by}
use Rattle.life_intervals.specs.Found.{IsFound, cohort_of_row}
use Rattle.life_intervals.specs.Generator.{generator_of, last_unit, table_of}
use Rattle.life_intervals.specs.Intervals.{change_unit, is_live, own_death, parent_of}
use Rattle.life_intervals.specs.Keys.{key_of}
use Rattle.life_intervals.specs.References.{choice}
use Rattle.life_intervals.specs.Rows.{life_by}
use Rattle.life_intervals.proofs.CohortAt.{CohortAt}
use Rattle.life_intervals.proofs.CohortAtLemmas.{change_in-due, change_in-from, change_in-le, due_in-birth, due_in-none, due_in-some, is_live_in-over, is_live_in-sure, own_death_in-place}
use Rattle.life_intervals.proofs.CohortParentLemmas.{parent_in-born, parent_in-choice, row_limit}
use Rattle.life_intervals.proofs.FoundLemmas.{IsFound-birth, found-change, found-change_from, found-change_le, found-change_recent, found-key, found-parent, found-period}
use Rattle.life_intervals.proofs.OrderLemmas.{place_in-key_order, steps_by-if}

-- what a place costs
pub steps_for : (plan : Project) (table : ℕ) (purpose : Purpose) (born : ℕ) → 0 < cohort_size (table_of plan table).births born →
    order_steps (order_for plan table purpose born) ≡ one_if (is_drawn (table_of plan table) purpose)
steps_for plan table purpose born some =
    steps_by-if (is_drawn (table_of plan table) purpose) (cohort_size (table_of plan table).births born) (order_seed plan table purpose born) some

module _ (plan : Project) (table born : ℕ) (within : born ≤ last_unit plan) (j : ℕ) (lies : LiesIn (table_of plan table).births born j) where
  abbrev births : Births
  births = (table_of plan table).births

  -- the row is found
  abbrev row : FoundRow
  row = record { ordinal = j; born = born; index = j - first_ordinal births born }

  pub found-lies : IsFound plan table row
  found-lies = IsFound-birth plan table j born (first_ordinal births born) within lies refl

  pub some-row : 0 < cohort_size births born
  some-row = omega (arith, lies.begun, lies.not_ended)

  -- its places are below the cohort's size
  pub place_for-below : (purpose : Purpose) → place_for plan table purpose born j < cohort_size births born
  place_for-below purpose = (IsBijectionBelow-place_in (order_for plan table purpose born)).within (j - first_ordinal births born) found-lies.index

  -- its key is by its place among the keys
  pub place_for-key : (table_of plan table).key.base + first_ordinal births born + place_for plan table Keys born j ≡ key_of (generator_of plan) table (last_unit plan) j
  place_for-key =
      ap (λ (place : ℕ). (table_of plan table).key.base + first_ordinal births born + place) (place_in-key_order plan table born (j - first_ordinal births born) found-lies.index)
      ∙ found-key plan table row found-lies

  -- its own life is by its place among the lives
  pub place_for-own_death : (t : ℕ) → born ≤ t → own_death (generator_of plan) table t j
      ≡ option_map (λ l. born + l) (life_by (table_of plan table).life (place_for plan table Lives born j))
  place_for-own_death t early =
      ap (own_death (generator_of plan) table t) found-lies.ordinal
      ∙ own_death_in-place (record { plan = plan; table = table; born = born; unit = t }) (j - first_ordinal births born) early found-lies.index

  -- when it is due is by its place among the updates
  pub place_for-due : (t period : ℕ) → (table_of plan table).update ≡ Some period → 1 ≤ period →
      last_due born (born + (1 + place_for plan table Updates born j % period)) period t ≡ due_for plan table t born j
  place_for-due t period is some =
      due_in-some (record { plan = plan; table = table; born = born; unit = t }) (j - first_ordinal births born) period found-lies.index is some

  pub due_for-never : (t : ℕ) → (table_of plan table).update ≡ None → born ≡ due_for plan table t born j
  due_for-never t is = due_in-none (record { plan = plan; table = table; born = born; unit = t }) (j - first_ordinal births born) is

  pub due_for-birth : (t : ℕ) → t ≡ born → born ≡ due_for plan table t born j
  due_for-birth t at = due_in-birth (record { plan = plan; table = table; born = born; unit = t }) (j - first_ordinal births born) at

  -- where no reference becomes null, and at its birth, it changed where it was due
  pub due_for-change : (t : ℕ) → born ≤ t → has_nullings (table_of plan table) ≡ false → due_for plan table t born j ≡ change_unit (generator_of plan) table t j
  due_for-change t early none =
      change_in-due (record { plan = plan; table = table; born = born; unit = t }) (j - first_ordinal births born) early found-lies.index none
      ∙ ap (change_unit (generator_of plan) table t) (sym found-lies.ordinal)

  pub due_for-change_at : (t : ℕ) → born ≤ t → t ≤ born → due_for plan table t born j ≡ change_unit (generator_of plan) table t j
  due_for-change_at t early late =
      let at : CohortAt = record { plan = plan; table = table; born = born; unit = t } in
      let index : ℕ = j - first_ordinal births born in
      let same : t ≡ born = omega (arith, early, late) in
      omega (
        arith,
        due_for-birth t same,
        change_in-from at index early found-lies.index,
        change_in-le at index early found-lies.index,
        ap (change_unit (generator_of plan) table t) found-lies.ordinal,
        same,
      )

  -- its last change is no earlier than its birth, and no later than the unit
  pub lies-change_from : (t : ℕ) → born ≤ t → born ≤ change_unit (generator_of plan) table t j
  lies-change_from t early = found-change_from plan table row found-lies t early

  pub lies-change_le : (t : ℕ) → born ≤ t → change_unit (generator_of plan) table t j ≤ t
  lies-change_le t early = found-change_le plan table row found-lies t early

  module _ (limits : IsInLimits plan) (below : table < length plan.schema.tables) where
    -- and among the last units that changes may be in
    pub lies-change_recent : (t : ℕ) → born ≤ t → (change_unit (generator_of plan) table t j ≡ born) ⊎ (t < change_unit (generator_of plan) table t j + change_span (table_of plan table) t)
    lies-change_recent t early = found-change_recent plan table row found-lies t early (found-period plan table row found-lies limits below)

    pub place_for-small : (purpose : Purpose) → place_for plan table purpose born j < 2 ^ 40
    place_for-small purpose = omega (arith, place_for-below purpose, cohort-within births born (last_unit plan) within, row_limit plan limits table below)

    -- its parent is by its place in the order of the reference
    pub place_for-parent : (column : ℕ) (ready : ReadyReference) → IsReferenceOf plan table column ready →
        (window_by plan ready born).first + place_in (deal_by plan table column ready born) (choice ready.spread (window_by plan ready born).count (place_for plan table (Parents column) born j))
        ≡ parent_of (generator_of plan) table (last_unit plan) j (reference_by column ready)
    place_for-parent column ready of =
        parent_in-choice plan limits table column born (j - first_ordinal births born) ready below of within found-lies.index
        ∙ found-parent plan table row found-lies (last_unit plan) within column ready

    pub parent-born : (column : ℕ) (ready : ReadyReference) → IsReferenceOf plan table column ready →
        parent_of (generator_of plan) table (last_unit plan) j (reference_by column ready) < born_count (table_of plan ready.parent).births born
    parent-born column ready of =
        subst (λ (parent : ℕ). parent < born_count (table_of plan ready.parent).births born) (found-parent plan table row found-lies (last_unit plan) within column ready)
        (parent_in-born plan limits table column born (j - first_ordinal births born) ready below of within found-lies.index)

    -- it changed last where it was due or lost a parent
    pub due_for-losses : (t : ℕ) → born ≤ t → t ≤ last_unit plan →
        last_change t (due_for plan table t born j) (losses_in (cohort_of_row plan table row) (j - first_ordinal births born)) ≡ change_unit (generator_of plan) table t j
    due_for-losses t early last = found-change plan table row found-lies limits below t early last

    -- what lives say
    pub lies-sure : (t : ℕ) → born ≤ t → t ≤ last_unit plan → survival_at plan table born t ≡ Sure → true ≡ is_live (generator_of plan) table t j
    lies-sure t early last sure =
        sym (
        ap (is_live (generator_of plan) table t) found-lies.ordinal
        ∙ is_live_in-sure (record { plan = plan; table = table; born = born; unit = t }) limits below last early sure (j - first_ordinal births born) found-lies.index)

    pub lies-over : (t : ℕ) → born ≤ t → t ≤ last_unit plan → survival_at plan table born t ≡ Over → false ≡ is_live (generator_of plan) table t j
    lies-over t early last over =
        sym (
        ap (is_live (generator_of plan) table t) found-lies.ordinal
        ∙ is_live_in-over (record { plan = plan; table = table; born = born; unit = t }) limits below last early over (j - first_ordinal births born) found-lies.index)
