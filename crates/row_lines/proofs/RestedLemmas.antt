-- A row that doesn't change at a unit: it changed last when it did at the unit before, and has the parents that it had.
use Rattle.std.proofs.Common.{◌≡◌, ℕ, suc, ◌-◌, ◌<◌, Bool, false, List, [], ◌∷◌, length, map, take, Option, Some, None, inl, inr, eq-eqb, refl, ap, arith, sym, ◌∙◌}
use Rattle.std.specs.Prelude.{if◌then◌else◌}
use Rattle.std.specs.List.{list_any}
use Rattle.std.proofs.lemmas.Bool.{cases_Bool, cases_eq, cases_lt, le-ltb, lt-ltb, or_parts, true≢false}
use Rattle.cohort_sizes.specs.Births.{Births, birth, born_count, first_ordinal, index_at}
use Rattle.schema_facts.specs.Layout.{TableLayout, table_at}
use Rattle.schema_facts.specs.References.{Reference, references_of}
use Rattle.life_intervals.specs.Changes.{change_by, due_by, first_due, last_change, wait_by}
use Rattle.life_intervals.specs.Generator.{Generator}
use Rattle.life_intervals.specs.Intervals.{Known, change_unit, held_parent, held_until, is_after, is_at, known_tables, loss_by, loss_of, parent_of, row_at}
use Rattle.life_intervals.specs.Simulation.{is_over, one_less}
use Rattle.life_intervals.specs.Sound.{AreSound}
use Rattle.life_intervals.proofs.AcceptedLemmas.{row_at-parents}
use Rattle.life_intervals.proofs.ChangeLemmas.{NextChange, NextChange-update, change-le, last_change-next, last_change-now}
use Rattle.life_intervals.proofs.HeldParentLemmas.{parent_of-by}
use Rattle.cohort_sizes.proofs.CohortLemmas.{birth-later, birth-le}

-- ---- what doesn't come at the next unit

-- comes past it where it comes past this one
after-next : (loss : Option ℕ) (unit : ℕ) → is_at loss (suc unit) ≡ false → is_after loss (suc unit) ≡ is_after loss unit
after-next None unit off = refl
after-next (Some loss) unit off = elim (cases_lt unit loss) [
  | inr past ↦ rw (le-ltb (suc unit) loss (omega (arith, past)), le-ltb unit loss past) refl
  | inl later ↦ elim (cases_eq loss (suc unit)) [
    | inl here ↦ absurd (true≢false (sym (eq-eqb loss (suc unit) here) ∙ off))
    | inr other ↦ rw (lt-ltb (suc unit) loss (omega (arith, later, other)), lt-ltb unit loss later) refl
  ]
]

-- parents none of which is lost at it are held there as they were
held-next : (loss : Reference → Option ℕ) (held next : Reference → Option ℕ) (parent : Reference → ℕ) (unit : ℕ) →
    ((reference : Reference) → held reference ≡ held_until (loss reference) unit (parent reference)) →
    ((reference : Reference) → next reference ≡ held_until (loss reference) (suc unit) (parent reference)) →
    (references : List Reference) → list_any (λ at. is_at at (suc unit)) (map loss references) ≡ false → map next references ≡ map held references
held-next loss held next parent unit held_is next_is [] unlost = refl
held-next loss held next parent unit held_is next_is (reference ∷ references) unlost =
    let parts = or_parts (is_at (loss reference) (suc unit)) (list_any (λ at. is_at at (suc unit)) (map loss references)) unlost in
    let here : next reference ≡ held reference =
    next_is reference
    ∙ ap (λ (holds : Bool). if holds then Some (parent reference) else None) (after-next (loss reference) unit parts.0)
    ∙ sym (held_is reference) in
    let rest : map next references ≡ map held references = held-next loss held next parent unit held_is next_is references parts.1 in
    cc

-- ---- a row

module _ (units : ℕ) (generator : Generator) (sound : AreSound units generator.tables) (place : ℕ) (below : place < length generator.tables)
    (unit ordinal : ℕ) (born : ordinal < born_count (table_at generator.tables place).births unit) where
  abbrev table : TableLayout
  table = table_at generator.tables place

  abbrev births : Births
  births = (table_at generator.tables place).births

  abbrev at_birth : ℕ
  at_birth = birth (table_at generator.tables place).births unit ordinal

  abbrev index : ℕ
  index = index_at (table_at generator.tables place).births unit ordinal

  abbrev losses : List (Option ℕ)
  losses = map (loss_of generator place unit ordinal) (references_of (table_at generator.tables place))

  -- the last unit by another at which it was due
  abbrev due : ℕ → ℕ
  due by = due_by generator.order place table at_birth index by

  same_birth : birth births (suc unit) ordinal ≡ at_birth
  same_birth = birth-later births unit (suc unit) ordinal born (omega arith)

  -- when it changed last at the next unit, by what is known at this one
  change-next : change_unit generator place (suc unit) ordinal ≡ last_change (suc unit) (due (suc unit)) losses
  change-next =
      let earlier : List Known = take place (known_tables generator) in
      ap (λ (b : ℕ). change_by generator.order place table (map (loss_by generator.order earlier b (ordinal - first_ordinal births b)) (references_of table)) b (ordinal - first_ordinal births b) (suc unit)) same_birth

  loss-next : (reference : Reference) → loss_of generator place (suc unit) ordinal reference ≡ loss_of generator place unit ordinal reference
  loss-next reference =
      let earlier : List Known = take place (known_tables generator) in
      ap (λ (b : ℕ). loss_by generator.order earlier b (ordinal - first_ordinal births b) reference) same_birth

  -- a row that is as it was
  pub record IsRested : Type 0 where
    pub changed : change_unit generator place (suc unit) ordinal ≡ change_unit generator place unit ordinal
    pub unlost : list_any (λ loss. is_at loss (suc unit)) losses ≡ false

  -- that is one that doesn't change at the next unit
  pub rested : (change_unit generator place (suc unit) ordinal ≡ suc unit → ⊥) → IsRested
  rested still =
      let change : NextChange table.update unit due (wait_by generator.order place table at_birth index) =
      NextChange-update table.update unit at_birth (λ (period : ℕ). first_due generator.order place at_birth index period) (sound place below).period in
      elim (cases_Bool (is_over (one_less (wait_by generator.order place table at_birth index unit)))) [
        | inl over ↦
            absurd (still (change-next ∙ ap (λ (c : ℕ). last_change (suc unit) c losses) (change.ends over).0 ∙ last_change-now (suc unit) losses))
        | inr on ↦
            let next : change_unit generator place (suc unit) ordinal ≡ (if list_any (λ loss. is_at loss (suc unit)) losses then suc unit else change_unit generator place unit ordinal) =
            change-next
            ∙ ap (λ (c : ℕ). last_change (suc unit) c losses) (change.goes_on on).0
            ∙ last_change-next unit (due unit) losses
            (change-le table.update unit at_birth (λ (period : ℕ). first_due generator.order place at_birth index period) (birth-le births unit ordinal born)) in
            elim (cases_Bool (list_any (λ loss. is_at loss (suc unit)) losses)) [
              | inl lost ↦
                  absurd (still (next ∙ ap (λ (b : Bool). if b then suc unit else change_unit generator place unit ordinal) lost))
              | inr unlost ↦ record {
                changed = next ∙ ap (λ (b : Bool). if b then suc unit else change_unit generator place unit ordinal) unlost;
                unlost = unlost;
              }
            ]
      ]

  -- it has the parents that it had
  pub rested-parents : IsRested → (row_at generator place (suc unit) ordinal).parents ≡ (row_at generator place unit ordinal).parents
  rested-parents is =
      row_at-parents generator place (suc unit) ordinal
      ∙ held-next (loss_of generator place unit ordinal) (held_parent generator place unit ordinal) (held_parent generator place (suc unit) ordinal) (parent_of generator place unit ordinal) unit
      (λ reference. refl)
      (λ reference.
      ap (λ (loss : Option ℕ). held_until loss (suc unit) (parent_of generator place (suc unit) ordinal reference)) (loss-next reference)
      ∙ ap (held_until (loss_of generator place unit ordinal reference) (suc unit)) (parent_of-by generator place (suc unit) unit ordinal reference (omega arith) born))
      (references_of table) is.unlost
      ∙ sym (row_at-parents generator place unit ordinal)
