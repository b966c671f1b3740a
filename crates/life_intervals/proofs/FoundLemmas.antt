-- What is told of a row that is found.
use Rattle.std.proofs.Common.{◌≡◌, ◌<◌, ◌≤◌, ℕ, ◌+◌, ◌-◌, ◌&&◌, true, Option, Some, None, is_none, length, option_map, ◌⊎◌, refl, ap, ap₂, arith, subst, sym, ◌∙◌}
use Rattle.std.specs.Prelude.{IfSome}
use Rattle.std.proofs.lemmas.Bool.{le-ltb, true≢false}
use Rattle.id_permutation.specs.Order.{place_in}
use Rattle.cohort_sizes.specs.Births.{Births, LiesIn, birth, born_count, first_ordinal, index_at}
use Rattle.cohort_sizes.proofs.CohortLemmas.{birth-first_ordinal, birth-later, birth-le, cohort-within, index_at-below}
use Rattle.schema_plan.specs.declared.ready.ReadyReference.{ReadyReference}
use Rattle.schema_facts.specs.Dictionaries.{Project}
use Rattle.schema_facts.specs.Layout.{layout_of}
use Rattle.schema_plan.specs.Limits.{IsInLimits}
use Rattle.schema_facts.specs.Lineage.{lesser_life, sure_life}
use Rattle.life_intervals.specs.declared.found.FoundRow.{FoundRow}
use Rattle.life_intervals.specs.Changes.{change_span, due_by, last_change}
use Rattle.life_intervals.specs.CohortOrders.{life_order}
use Rattle.life_intervals.specs.CohortParents.{IsReferenceOf, held_in, losses_in, parent_in, parents_death_in, reference_by}
use Rattle.life_intervals.specs.Found.{IsFound, cohort_of_row}
use Rattle.life_intervals.specs.Generator.{Generator, generator_of, last_unit, rows_in_all, table_of}
use Rattle.life_intervals.specs.Intervals.{change_unit, death, held_parent, is_after, is_live, own_death, parent_of}
use Rattle.life_intervals.specs.Keys.{key_in_cohort, key_of}
use Rattle.life_intervals.specs.Rows.{life_by}
use Rattle.life_intervals.proofs.CohortAt.{CohortAt, change_in}
use Rattle.life_intervals.proofs.AcceptedLemmas.{AreSound-accepted, length-tables}
use Rattle.life_intervals.proofs.CohortAtLemmas.{change_in-from, change_in-le, change_in-recent, death_in-parents, own_death_in-place}
use Rattle.life_intervals.proofs.CohortParentLemmas.{change_unit-losses, death-parents, held_parent-in}
use Rattle.life_intervals.proofs.DeathLemmas.{is_after-lesser_life}
use Rattle.life_intervals.proofs.KeyLemmas.{key_of-first_ordinal}
use Rattle.life_intervals.proofs.KnownLemmas.{IsSure-known_of}
use Rattle.life_intervals.proofs.LifeLemmas.{death-later}

-- a row whose birth is told is found
pub IsFound-birth : (plan : Project) (table ordinal born first : ℕ) → born ≤ last_unit plan → LiesIn (table_of plan table).births born ordinal → first ≡ first_ordinal (table_of plan table).births born →
    IsFound plan table (record { ordinal = ordinal; born = born; index = ordinal - first })
IsFound-birth plan table ordinal born first within lies first_is = record {
  born = within;
  index = omega (arith, lies.begun, lies.not_ended, first_is);
  ordinal = omega (arith, lies.begun, first_is);
}

module _ (plan : Project) (table : ℕ) (row : FoundRow) (found : IsFound plan table row) where
  abbrev births : Births
  births = (table_of plan table).births

  -- its ordinal is born by its unit
  pub found-born : row.ordinal < born_count births row.born
  found-born = omega (arith, found.ordinal, found.index, cohort-within births row.born row.born (omega arith))

  pub found-in_all : row.ordinal < rows_in_all plan table
  found-in_all = omega (arith, found.ordinal, found.index, cohort-within births row.born (last_unit plan) found.born)

  pub found-by : (t : ℕ) → row.born ≤ t → row.ordinal < born_count births t
  found-by t later = omega (arith, found.ordinal, found.index, cohort-within births row.born t later)

  -- its birth and its index are those of its ordinal
  pub found-birth : (t : ℕ) → row.born ≤ t → row.born ≡ birth births t row.ordinal
  found-birth t later = sym (ap (birth births t) found.ordinal ∙ birth-first_ordinal births t row.born row.index later found.index)

  pub found-index : (t : ℕ) → row.born ≤ t → row.index ≡ index_at births t row.ordinal
  found-index t later =
      let from : row.index ≡ row.ordinal - first_ordinal births row.born = omega (arith, found.ordinal) in
      from ∙ ap (λ (b : ℕ). row.ordinal - first_ordinal births b) (found-birth t later)

  -- its key
  pub found-key : key_in_cohort (generator_of plan) table row.born row.index ≡ key_of (generator_of plan) table (last_unit plan) row.ordinal
  found-key =
      sym (key_of-first_ordinal (generator_of plan) table (last_unit plan) row.born row.index found.born found.index)
      ∙ ap (key_of (generator_of plan) table (last_unit plan)) (sym found.ordinal)

  -- the end of its own life
  pub found-own_death : own_death (generator_of plan) table (last_unit plan) row.ordinal
      ≡ option_map (λ l. row.born + l) (life_by (table_of plan table).life (place_in (life_order plan table row.born) row.index))
  found-own_death =
      ap (own_death (generator_of plan) table (last_unit plan)) found.ordinal
      ∙ own_death_in-place (record { plan = plan; table = table; born = row.born; unit = last_unit plan }) row.index found.born found.index

  -- its last change is no earlier than its birth and no later than the unit, and among the last units that changes may be in
  abbrev at : ℕ → CohortAt
  at t = record { plan = plan; table = table; born = row.born; unit = t }

  same_change : (t : ℕ) → change_unit (generator_of plan) table t row.ordinal ≡ change_in (at t) row.index
  same_change t = ap (change_unit (generator_of plan) table t) found.ordinal

  pub found-change_from : (t : ℕ) → row.born ≤ t → row.born ≤ change_unit (generator_of plan) table t row.ordinal
  found-change_from t later = omega (arith, same_change t, change_in-from (at t) row.index later found.index)

  pub found-change_le : (t : ℕ) → row.born ≤ t → change_unit (generator_of plan) table t row.ordinal ≤ t
  found-change_le t later = omega (arith, same_change t, change_in-le (at t) row.index later found.index)

  pub found-change_recent : (t : ℕ) → row.born ≤ t → IfSome (table_of plan table).update (λ period. 1 ≤ period) →
      (change_unit (generator_of plan) table t row.ordinal ≡ row.born) ⊎ (t < change_unit (generator_of plan) table t row.ordinal + change_span (table_of plan table) t)
  found-change_recent t later some =
      subst (λ (change : ℕ). (change ≡ row.born) ⊎ (t < change + change_span (table_of plan table) t)) (sym (same_change t))
      (change_in-recent (at t) row.index later found.index some)

  module _ (limits : IsInLimits plan) (below : table < length plan.schema.tables) where
    -- how often rows of a table are updated
    pub found-period : IfSome (table_of plan table).update (λ period. 1 ≤ period)
    found-period = (AreSound-accepted plan limits table (omega (arith, below, length-tables plan))).period

    -- its death
    pub found-death : lesser_life (own_death (generator_of plan) table (last_unit plan) row.ordinal) (parents_death_in (cohort_of_row plan table row) row.index)
        ≡ death (generator_of plan) table (last_unit plan) row.ordinal
    found-death =
        death-parents plan limits table row.born row.ordinal row.index below found-in_all (found-birth (last_unit plan) found.born) (found-index (last_unit plan) found.born)

    -- whether it is alive at a unit
    pub found-live : (t : ℕ) → row.born ≤ t → t ≤ last_unit plan → is_after (death (generator_of plan) table (last_unit plan) row.ordinal) t ≡ is_live (generator_of plan) table t row.ordinal
    found-live t later within =
        ap (λ (d : Option ℕ). is_after d t) (death-later (generator_of plan) table t (last_unit plan) row.ordinal (found-by t later) within)

    -- it is where its own life lasts past the unit and its parents are alive that take it along
    pub found-lives : (t : ℕ) → row.born ≤ t → t ≤ last_unit plan →
        (is_after (own_death (generator_of plan) table t row.ordinal) t && is_after (parents_death_in (cohort_of_row plan table row) row.index) t) ≡ is_live (generator_of plan) table t row.ordinal
    found-lives t later within =
        let parents : Option ℕ = parents_death_in (cohort_of_row plan table row) row.index in
        sym (is_after-lesser_life (own_death (generator_of plan) table t row.ordinal) parents t)
        ∙ ap (λ (ordinal : ℕ). is_after (lesser_life (own_death (generator_of plan) table t ordinal) parents) t) found.ordinal
        ∙ ap (λ (death : Option ℕ). is_after death t) (death_in-parents (at t) row.index limits below within later found.index)
        ∙ ap (is_live (generator_of plan) table t) (sym found.ordinal)

    -- its last change by a unit
    pub found-change : (t : ℕ) → row.born ≤ t → t ≤ last_unit plan →
        last_change t (due_by (generator_of plan).order table (table_of plan table) row.born row.index t) (losses_in (cohort_of_row plan table row) row.index)
        ≡ change_unit (generator_of plan) table t row.ordinal
    found-change t later within =
        change_unit-losses plan limits table t row.ordinal below within (found-by t later) row.born row.index (found-birth t later) (found-index t later)

    -- the parent that it still has then
    pub found-held : (t : ℕ) → row.born ≤ t → t ≤ last_unit plan → (column : ℕ) (ready : ReadyReference) → IsReferenceOf plan table column ready →
        held_in (cohort_of_row plan table row) row.index t (reference_by column ready) ≡ held_parent (generator_of plan) table t row.ordinal (reference_by column ready)
    found-held t later within column ready of =
        held_parent-in plan limits table t row.ordinal below within (found-by t later) row.born row.index column ready of (found-birth t later) (found-index t later)

  -- the parent that it is born with
  pub found-parent : (t : ℕ) → row.born ≤ t → (column : ℕ) (ready : ReadyReference) →
      parent_in (cohort_of_row plan table row) row.index (reference_by column ready) ≡ parent_of (generator_of plan) table t row.ordinal (reference_by column ready)
  found-parent t later column ready =
      ap₂ (λ (b i : ℕ). parent_in (record { plan = plan; table = table; unit = b }) i (reference_by column ready)) (found-birth t later) (found-index t later)

-- a row that is born by a unit has its birth by then
pub found-early : (plan : Project) (table t j : ℕ) (row : FoundRow) → IsFound plan table row → row.ordinal ≡ j → t ≤ last_unit plan → j < born_count (table_of plan table).births t → row.born ≤ t
found-early plan table t j row is same within born =
    omega (
      arith,
      found-birth plan table row is (last_unit plan) is.born,
      ap (birth (table_of plan table).births (last_unit plan)) same,
      birth-later (table_of plan table).births t (last_unit plan) j born within,
      birth-le (table_of plan table).births t j born,
    )

-- where a table's rows live without an end for sure, none ever dies
never : (death : Option ℕ) (born : ℕ) → ((age : ℕ) → is_after death (born + age) ≡ true) → death ≡ None
never None born after = refl
never (Some death) born after = absurd (true≢false (sym (after death) ∙ le-ltb (born + death) death (omega arith)))

pub none-from : (o : Option ℕ) → is_none o ≡ true → o ≡ None
none-from None none = refl
none-from (Some n) none = absurd (true≢false (sym none))

pub death-never : (plan : Project) → IsInLimits plan → (table : ℕ) → table < length plan.schema.tables → sure_life (layout_of plan).tables table ≡ None →
    (ordinal : ℕ) → ordinal < rows_in_all plan table → death (generator_of plan) table (last_unit plan) ordinal ≡ None
death-never plan limits table below endless ordinal born =
    let generator : Generator = generator_of plan in
    let births : Births = (table_of plan table).births in
    let at : ℕ = birth births (last_unit plan) ordinal in
    never (death generator table (last_unit plan) ordinal) at (λ age.
    IsSure-known_of (last_unit plan) generator (AreSound-accepted plan limits) table (omega (arith, below, length-tables plan)) at (index_at births (last_unit plan) ordinal) age
    (birth-le births (last_unit plan) ordinal born) (index_at-below births (last_unit plan) ordinal born) (ap (λ (life : Option ℕ). is_after life age) endless))
