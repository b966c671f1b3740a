-- What a row looks up: what the parent holds with whom it is deleted, which is the same at each unit.
use Rattle.std.proofs.Common.{◌≡◌, ◌<◌, ◌≤◌, ℕ, suc, true, false, List, length, Option, Some, refl, ap, subst, sym, ◌∙◌, arith}
use Rattle.std.specs.Option.{option_and_then}
use Rattle.std.proofs.lemmas.Bool.{false≢true}
use Rattle.cohort_sizes.specs.Births.{Births, birth, born_count}
use Rattle.schema_facts.specs.Dictionaries.{Project}
use Rattle.schema_facts.specs.Layout.{after_kind, product_kind, sum_kind, KindLayout, born_kind, case_kind, changed_kind, column_at, key_kind, leaf_kind, lookup_kind, list_kind, unit_date_kind, no_table, reference_kind, template_kind}
use Rattle.schema_plan.specs.Limits.{IsCascadeTo, IsInLimits, IsLookup, IsStillColumn, is_lookup_kind}
use Rattle.schema_facts.specs.References.{IsReferenceInLimits, Reference, reference_at, reference_of}
use Rattle.life_intervals.specs.Generator.{Generator, generator_of, last_unit, table_of}
use Rattle.life_intervals.specs.Intervals.{held_parent, is_live, parent_of, row_at}
use Rattle.life_intervals.specs.Sound.{AreSound}
use Rattle.life_intervals.proofs.AcceptedLemmas.{AreSound-accepted, place-below}
use Rattle.life_intervals.proofs.HeldParentLemmas.{held_parent-cascades, parent_of-by}
use Rattle.life_intervals.proofs.LifeLemmas.{parent_of-born}
use Rattle.life_intervals.proofs.ReferenceLemmas.{at_column}
use Rattle.cohort_sizes.proofs.CohortLemmas.{birth-later, birth-le, born_count-le}
use Rattle.row_lines.specs.Lines.{field_in_table, looked_up}
use Rattle.row_lines.proofs.LookupLemmas.{looked_up-held}
use Rattle.row_lines.proofs.ReferenceFieldLemmas.{parent_of_row-by, parents-held_parent}
use Rattle.row_lines.proofs.StillLemmas.{still_field}

-- ---- kinds of columns

-- a lookup
pub lookup-parts : (kind : KindLayout) → is_lookup_kind kind ≡ true → (via : ℕ) × (parent : ℕ) × (name : ℕ) × (kind ≡ lookup_kind via parent name)
lookup-parts (lookup_kind via parent name) is = (via, parent, name, refl)
lookup-parts key_kind is = absurd (false≢true is)
lookup-parts born_kind is = absurd (false≢true is)
lookup-parts changed_kind is = absurd (false≢true is)
lookup-parts (leaf_kind leaf) is = absurd (false≢true is)
lookup-parts (template_kind parts) is = absurd (false≢true is)
lookup-parts (case_kind on branches) is = absurd (false≢true is)
lookup-parts (reference_kind parent window spread nulls drawn) is = absurd (false≢true is)
lookup-parts (list_kind words) is = absurd (false≢true is)
lookup-parts (unit_date_kind changed start step) is = absurd (false≢true is)
lookup-parts (after_kind of lo hi) is = absurd (false≢true is)
lookup-parts (sum_kind of) is = absurd (false≢true is)
lookup-parts (product_kind of) is = absurd (false≢true is)

-- a reference to a table, with whose row its own is deleted
cascade-parts : (column parent : ℕ) (kind : KindLayout) → IsCascadeTo parent kind →
    (reference : Reference) × (reference_of column kind ≡ Some reference) × (reference.parent ≡ parent) × (reference.nulls ≡ false)
cascade-parts column parent (reference_kind to window spread false drawn) is =
    (record { column = column; parent = to; window = window; spread = spread; nulls = false; drawn = drawn }, refl, is, refl)
cascade-parts column parent _ is = absurd is

module _ (plan : Project) (limits : IsInLimits plan) where
  abbrev generator : Generator
  generator = generator_of plan

  abbrev units : ℕ
  units = last_unit plan

  abbrev sound : AreSound (last_unit plan) (generator_of plan).tables
  sound = AreSound-accepted plan limits

  abbrev births_of : ℕ → Births
  births_of place = (table_of plan place).births

  -- what a row looks up is what the parent with whom it is deleted holds
  looked_up-parent : (place : ℕ) → place < length plan.schema.tables → (unit : ℕ) → unit ≤ units → (ordinal : ℕ) →
      ordinal < born_count (births_of place) unit → is_live generator place unit ordinal ≡ true →
      (via name : ℕ) (reference : Reference) → reference_at (table_of plan place) via ≡ Some reference → reference.nulls ≡ false →
      looked_up generator unit place (row_at generator place unit ordinal) via reference.parent name
      ≡ field_in_table generator reference.parent (row_at generator reference.parent unit (parent_of generator place unit ordinal reference)) name
  looked_up-parent place below unit within ordinal born alive via name reference is cascades =
      looked_up-held units generator sound place (place-below plan place below) unit within ordinal born alive via name reference is
      ∙ ap (option_and_then (λ (parent : ℕ). field_in_table generator reference.parent (row_at generator reference.parent unit parent) name))
      (held_parent-cascades generator place unit ordinal reference cascades)

  -- that one is born by the unit
  parent-born : (place : ℕ) → place < length plan.schema.tables → (unit : ℕ) → unit ≤ units → (ordinal : ℕ) →
      ordinal < born_count (births_of place) unit →
      (via : ℕ) (reference : Reference) → reference_at (table_of plan place) via ≡ Some reference →
      parent_of generator place unit ordinal reference < born_count (births_of reference.parent) unit
  parent-born place below unit within ordinal born via reference is = omega (
    arith,
    parent_of-born units generator sound place (place-below plan place below) unit within ordinal born via reference is,
    born_count-le (births_of reference.parent) (birth (births_of place) unit ordinal) unit (birth-le (births_of place) unit ordinal born),
  )

  -- a row holds the same in a column that doesn't move at each unit
  still-next : (place : ℕ) → place < length plan.schema.tables → (unit ordinal : ℕ) → ordinal < born_count (births_of place) unit → (column : ℕ) →
      IsStillColumn (table_of plan place) column →
      field_in_table generator place (row_at generator place (suc unit) ordinal) column ≡ field_in_table generator place (row_at generator place unit ordinal) column
  still-next place below unit ordinal born column still =
      still_field generator place (row_at generator place unit ordinal) (row_at generator place (suc unit) ordinal) units (limits.tables place no_table (place-below plan place below)) (λ at inside. limits.lookups place at below inside) refl
      (birth-later (births_of place) unit (suc unit) ordinal born (omega arith))
      (λ at reference is cascades.
      parent_of_row-by (table_of plan place) (row_at generator place (suc unit) ordinal) (held_parent generator place (suc unit) ordinal) at reference (parents-held_parent generator place (suc unit) ordinal) is
      ∙ held_parent-cascades generator place (suc unit) ordinal reference cascades
      ∙ ap (λ (parent : ℕ). Some parent) (parent_of-by generator place (suc unit) unit ordinal reference (omega arith) born)
      ∙ sym (held_parent-cascades generator place unit ordinal reference cascades)
      ∙ sym (parent_of_row-by (table_of plan place) (row_at generator place unit ordinal) (held_parent generator place unit ordinal) at reference (parents-held_parent generator place unit ordinal) is))
      column still.within still.still

  -- so a row that is alive at two units, one after the other, looks up the same at both
  pub looked_up-next : (place : ℕ) → place < length plan.schema.tables → (unit : ℕ) → suc unit ≤ units → (ordinal : ℕ) →
      ordinal < born_count (births_of place) unit →
      is_live generator place unit ordinal ≡ true → is_live generator place (suc unit) ordinal ≡ true →
      (column via parent name : ℕ) → column < length (table_of plan place).columns → IsLookup (generator_of plan).tables (table_of plan place).columns column via parent name →
      looked_up generator (suc unit) place (row_at generator place (suc unit) ordinal) via parent name ≡ looked_up generator unit place (row_at generator place unit ordinal) via parent name
  looked_up-next place below unit within ordinal born before alive column via parent name inside is =
      let found = cascade-parts via parent (column_at (table_of plan place).columns via).kind is.reference in
      let reference : Reference = found.0 in
      let to : reference.parent ≡ parent = found.2 in
      let refers : IsReferenceInLimits units (generator_of plan).tables place reference =
      at_column (IsReferenceInLimits units (generator_of plan).tables place) (table_of plan place) (limits.references place below) via reference (omega (arith, is.earlier, inside)) found.1 in
      let shown : IsStillColumn (table_of plan reference.parent) name = subst (λ (p : ℕ). IsStillColumn (table_of plan p) name) (sym to) is.looked_up in
      let of : ℕ → ℕ → Option (List ℕ) = λ at p. field_in_table generator reference.parent (row_at generator reference.parent at p) name in
      ap (λ (p : ℕ). looked_up generator (suc unit) place (row_at generator place (suc unit) ordinal) via p name) (sym to)
      ∙ looked_up-parent place below (suc unit) within ordinal (omega (arith, born, born_count-le (births_of place) unit (suc unit) (omega arith))) alive via name reference found.1 found.3
      ∙ ap (of (suc unit)) (parent_of-by generator place (suc unit) unit ordinal reference (omega arith) born)
      ∙ still-next reference.parent (omega (arith, refers.earlier, below)) unit (parent_of generator place unit ordinal reference) (parent-born place below unit (omega (arith, within)) ordinal born via reference found.1) name shown
      ∙ sym (looked_up-parent place below unit (omega (arith, within)) ordinal born before via name reference found.1 found.3)
      ∙ ap (λ (p : ℕ). looked_up generator unit place (row_at generator place unit ordinal) via p name) to
