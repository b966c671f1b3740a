-- What a step to a unit deletes and updates, by ordinals.
use Rattle.std.proofs.Common.{◌≡◌, ℕ, ◌+◌, ◌-◌, ◌<◌, ◌≤◌, Bool, not, ◌&&◌, List, [], ◌∷◌, length, filter, map, Option, Some, None, inl, inr, eq-eqb, ne_eqb, refl, ap, ap₂, arith, sym, ◌∙◌}
use Rattle.std.specs.List.{range_with_len}
use Rattle.std.proofs.lemmas.Bool.{cases_Bool, cases_lt, le-ltb, lt-ltb}
use Rattle.cohort_sizes.specs.Births.{born_count, first_ordinal}
use Rattle.schema_facts.specs.Dictionaries.{Project}
use Rattle.schema_plan.specs.Limits.{IsInLimits}
use Rattle.life_intervals.specs.Generator.{Generator, generator_of, last_unit, table_of}
use Rattle.life_intervals.specs.Intervals.{changing, death, dying, is_after, is_at, is_live, living, row_at}
use Rattle.life_intervals.specs.Rows.{Row}
use Rattle.life_intervals.specs.Simulation.{holds_row, rows_at}
use Rattle.life_intervals.specs.Sound.{AreSound}
use Rattle.life_intervals.specs.Streams.{deleted, updated}
use Rattle.life_intervals.proofs.AcceptedLemmas.{AreSound-accepted, place-below}
use Rattle.cohort_sizes.proofs.CohortLemmas.{born_count-le}
use Rattle.life_intervals.proofs.LifeLemmas.{death-later}
use Rattle.life_intervals.proofs.LiveLemmas.{holds_row-live}
use Rattle.life_intervals.proofs.SimulationLemmas.{rows_at-rows_of}
use Rattle.life_intervals.proofs.StreamLemmas.{deleted-dying, updated-changing}
use Rattle.update_box.specs.UnitLists.{ordinals}
use Rattle.update_box.proofs.RangeLemmas.{filter-filter, filter-range_same}

-- ---- by the closed form

-- the ordinals of the rows of some are these
ordinals-rows : (generator : Generator) (place unit : ℕ) (xs : List ℕ) → ordinals (map (row_at generator place unit) xs) ≡ xs
ordinals-rows generator place unit [] = refl
ordinals-rows generator place unit (x ∷ xs) = ap (λ (ys : List ℕ). x ∷ ys) (ordinals-rows generator place unit xs)

pub deleted-ordinals : (plan : Project) → IsInLimits plan → (place : ℕ) → place < length plan.schema.tables → (unit : ℕ) → unit ≤ last_unit plan →
    ordinals (deleted (generator_of plan) place unit) ≡ dying (generator_of plan) place unit
deleted-ordinals plan limits place below unit within =
    ap ordinals (deleted-dying (last_unit plan) (generator_of plan) (AreSound-accepted plan limits) place (place-below plan place below) unit within)
    ∙ ordinals-rows (generator_of plan) place (unit - 1) (dying (generator_of plan) place unit)

pub updated-ordinals : (plan : Project) → IsInLimits plan → (place : ℕ) → place < length plan.schema.tables → (unit : ℕ) → unit ≤ last_unit plan →
    ordinals (updated (generator_of plan) place unit) ≡ changing (generator_of plan) place unit
updated-ordinals plan limits place below unit within =
    ap ordinals (updated-changing (last_unit plan) (generator_of plan) (AreSound-accepted plan limits) place (place-below plan place below) unit within)
    ∙ ordinals-rows (generator_of plan) place unit (changing (generator_of plan) place unit)

-- ---- by the rows that the tables hold

-- what passes of the rows of some ordinals is of those that pass
filter-ordinals : (generator : Generator) (place unit : ℕ) (p : ℕ → Bool) (xs : List ℕ) →
    ordinals (filter (λ (row : Row). p row.ordinal) (map (row_at generator place unit) xs)) ≡ filter p xs
filter-ordinals generator place unit p [] = refl
filter-ordinals generator place unit p (x ∷ xs) = elim (cases_Bool (p x)) [
  | inl passes ↦ rw passes (ap (λ (ys : List ℕ). x ∷ ys) (filter-ordinals generator place unit p xs))
  | inr fails ↦ rw fails (filter-ordinals generator place unit p xs)
]

-- a death comes at a unit where it was past the one before and isn't past this one
at_passed : (death : Option ℕ) (unit : ℕ) → 1 ≤ unit → (is_after death (unit - 1) && not (is_after death unit)) ≡ is_at death unit
at_passed None unit some = refl
at_passed (Some death) unit some = elim (cases_lt unit death) [
  | inl later ↦ rw (lt-ltb unit death later, lt-ltb (unit - 1) death (omega (arith, later)), ne_eqb death unit (λ same. omega (arith, same, later))) refl
  | inr past ↦ elim (cases_lt (unit - 1) death) [
    | inl before ↦ rw (le-ltb unit death past, lt-ltb (unit - 1) death before, eq-eqb death unit (omega (arith, past, before))) refl
    | inr over ↦ rw (le-ltb (unit - 1) death over, ne_eqb death unit (λ same. omega (arith, same, over, some))) refl
  ]
]

-- so what a unit deletes is what the table held at the unit before and doesn't hold any more
pub deleted-gone : (plan : Project) → IsInLimits plan → (place : ℕ) → place < length plan.schema.tables → (unit : ℕ) → 1 ≤ unit → unit ≤ last_unit plan →
    ordinals (deleted (generator_of plan) place unit)
    ≡ ordinals (filter (λ (row : Row). not (holds_row (rows_at (generator_of plan) place unit) row.ordinal)) (rows_at (generator_of plan) place (unit - 1)))
deleted-gone plan limits place below unit some within =
    let generator : Generator = generator_of plan in
    let births = (table_of plan place).births in
    let sound : AreSound (last_unit plan) generator.tables = AreSound-accepted plan limits in
    let gone : ℕ → Bool = λ ordinal. not (holds_row (rows_at generator place unit) ordinal) in
    let before : unit - 1 + 1 ≡ unit = omega (arith, some) in
    let count : born_count births (unit - 1) ≡ first_ordinal births unit = ap (first_ordinal births) before in
    deleted-ordinals plan limits place below unit within
    ∙ filter-range_same (λ ordinal. is_at (death generator place unit ordinal) unit) (λ ordinal. is_live generator place (unit - 1) ordinal && gone ordinal) 0 (first_ordinal births unit)
    (λ ordinal low high.
    let born : ordinal < born_count births (unit - 1) = omega (arith, high, count) in
    let later : death generator place unit ordinal ≡ death generator place (unit - 1) ordinal = death-later generator place (unit - 1) unit ordinal born (omega arith) in
    let held : holds_row (rows_at generator place unit) ordinal ≡ is_live generator place unit ordinal =
    holds_row-live (last_unit plan) generator place unit ordinal sound within (omega (arith, born, born_count-le births (unit - 1) unit (omega arith))) in
    sym (at_passed (death generator place unit ordinal) unit some)
    ∙ ap₂ (λ (d : Option ℕ) (holds : Bool). is_after d (unit - 1) && not holds) later (sym held))
    ∙ sym (ap (λ (n : ℕ). filter (λ ordinal. is_live generator place (unit - 1) ordinal && gone ordinal) (range_with_len 0 n)) count)
    ∙ sym (filter-filter (is_live generator place (unit - 1)) gone (range_with_len 0 (born_count births (unit - 1))))
    ∙ sym (filter-ordinals generator place (unit - 1) gone (living generator place (unit - 1)))
    ∙ ap (λ (rows : List Row). ordinals (filter (λ (row : Row). gone row.ordinal) rows)) (sym (rows_at-rows_of (last_unit plan) generator place (unit - 1) sound (omega (arith, within))))
