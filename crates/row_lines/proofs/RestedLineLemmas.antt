-- The line of a row that lives on and doesn't change at a unit is the one that it had.
use Rattle.std.proofs.Common.{◌≡◌, ◌<◌, ◌≤◌, ℕ, suc, ◌+◌, true, List, length, Option, inl, inr, ap, subst, sym, ◌∙◌, arith}
use Rattle.std.proofs.lemmas.Bool.{cases_Bool}
use Rattle.row_text.specs.Fields.{field_text}
use Rattle.cohort_sizes.specs.Births.{Births, born_count}
use Rattle.schema_facts.specs.Dictionaries.{Project}
use Rattle.schema_facts.specs.Layout.{KindLayout, column_at}
use Rattle.schema_plan.specs.Limits.{IsInLimits, IsLookup, IsLookupInLimits, is_lookup_kind}
use Rattle.draw_values.specs.Values.{Draws, unless_null}
use Rattle.life_intervals.specs.Generator.{Generator, generator_of, last_unit, table_of}
use Rattle.life_intervals.specs.Intervals.{change_unit, is_live, row_at}
use Rattle.life_intervals.specs.Rows.{Row}
use Rattle.life_intervals.specs.Sound.{AreSound}
use Rattle.life_intervals.proofs.AcceptedLemmas.{AreSound-accepted, place-below, row_at-changed}
use Rattle.life_intervals.proofs.Ranges.{map-range_with_len_same}
use Rattle.cohort_sizes.proofs.CohortLemmas.{birth-later}
use Rattle.row_lines.specs.Lines.{field, field_in_table, field_texts, value}
use Rattle.row_lines.specs.RowViews.{draws_of}
use Rattle.row_lines.proofs.FieldLemmas.{field-in_table}
use Rattle.row_lines.proofs.LookedUpLemmas.{looked_up-next, lookup-parts}
use Rattle.row_lines.proofs.RowFormLemmas.{field-form}
use Rattle.row_lines.proofs.RestedLemmas.{IsRested, rested, rested-parents}

module _ (plan : Project) (limits : IsInLimits plan) (place : ℕ) (below : place < length plan.schema.tables) (unit : ℕ)
    (within : suc unit ≤ last_unit plan) (ordinal : ℕ) (born : ordinal < born_count (table_of plan place).births unit) (before : is_live (generator_of plan) place unit ordinal ≡ true) (alive : is_live (generator_of plan) place (suc unit) ordinal ≡ true) (still : change_unit (generator_of plan) place (suc unit) ordinal ≡ suc unit → ⊥) where
  abbrev generator : Generator
  generator = generator_of plan

  abbrev units : ℕ
  units = last_unit plan

  abbrev sound : AreSound (last_unit plan) (generator_of plan).tables
  sound = AreSound-accepted plan limits

  abbrev births : Births
  births = (table_of plan place).births

  abbrev row : Row
  row = row_at generator place unit ordinal

  abbrev later : Row
  later = row_at generator place (suc unit) ordinal

  abbrev is_rested : IsRested units generator sound place (place-below plan place below) unit ordinal born
  is_rested = rested units generator sound place (place-below plan place below) unit ordinal born still

  pub same_changed : later.changed ≡ row.changed
  same_changed =
      row_at-changed generator place (suc unit) ordinal (place-below plan place below)
      ∙ is_rested.changed
      ∙ sym (row_at-changed generator place unit ordinal (place-below plan place below))

  pub same_birth : later.born ≡ row.born
  same_birth = birth-later births unit (suc unit) ordinal born (omega arith)

  -- the row but for how many units are left to the end of its life and to its next update, of which no field tells
  abbrev formed : ℕ → ℕ → List (Option ℕ) → Row
  formed at changed parents = record { ordinal = ordinal; born = at; changed = changed; left = row.left; wait = row.wait; parents = parents }

  pub by_form : {A : Type 0} (f : Row → A) → f (formed later.born later.changed later.parents) ≡ f row
  by_form f =
      ap (λ (at : ℕ). f (formed at later.changed later.parents)) same_birth
      ∙ ap (λ (changed : ℕ). f (formed row.born changed later.parents)) same_changed
      ∙ ap (λ (parents : List (Option ℕ)). f (formed row.born row.changed parents)) (rested-parents units generator sound place (place-below plan place below) unit ordinal born is_rested)

  in_table-next : (column : ℕ) → field_in_table generator place later column ≡ field_in_table generator place row column
  in_table-next column = sym (field-form generator place later row.left row.wait column) ∙ by_form (λ (of : Row). field_in_table generator place of column)

  draws-next : (column : ℕ) → draws_of generator place later column ≡ draws_of generator place row column
  draws-next column = by_form (λ (of : Row). draws_of generator place of column)

  -- so each of its fields is as it was
  field-next : (column : ℕ) → column < length (table_of plan place).columns →
      field generator (suc unit) place later column ≡ field generator unit place row column
  field-next column inside =
      let kind : KindLayout = (column_at (table_of plan place).columns column).kind in
      let null : ℕ = (column_at (table_of plan place).columns column).null in
      elim (cases_Bool (is_lookup_kind kind)) [
        | inr other ↦
            field-in_table generator (suc unit) place column later other ∙ in_table-next column ∙ sym (field-in_table generator unit place column row other)
        | inl lookup ↦
            let of = lookup-parts kind lookup in
            let is : IsLookup (generator_of plan).tables (table_of plan place).columns column of.0 of.1 of.2 =
            subst (IsLookupInLimits (generator_of plan).tables (table_of plan place).columns column) of.3 (limits.lookups place column below inside) in
            ap (λ (draw : Draws). unless_null null draw (value generator (suc unit) place later column kind)) (draws-next column)
            ∙ ap (λ (k : KindLayout). unless_null null (draws_of generator place row column) (value generator (suc unit) place later column k)) of.3
            ∙ ap (unless_null null (draws_of generator place row column)) (looked_up-next plan limits place below unit within ordinal born before alive column of.0 of.1 of.2 inside is)
            ∙ sym (ap (λ (k : KindLayout). unless_null null (draws_of generator place row column) (value generator unit place row column k)) of.3)
      ]

  -- and all of them are written as they were
  pub field_texts-next : field_texts generator (suc unit) place later ≡ field_texts generator unit place row
  field_texts-next =
      map-range_with_len_same (λ (column : ℕ). field_text generator.delimiter (field generator (suc unit) place later column))
      (λ (column : ℕ). field_text generator.delimiter (field generator unit place row column)) 0 0 (length (table_of plan place).columns)
      (λ column inside. ap (field_text generator.delimiter) (field-next (0 + column) (omega (arith, inside))))
