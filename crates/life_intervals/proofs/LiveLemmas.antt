-- Which rows a table holds: those of the ordinals that are born and alive.
use Rattle.std.proofs.Common.{◌≡◌, ℕ, zero, suc, ◌+◌, ◌<◌, ◌≤◌, false, List, filter, map, inl, inr, ne_eqb, eq-eqb, refl, ap, arith, sym, ◌∙◌}
use Rattle.std.specs.List.{range_with_len}
use Rattle.std.proofs.lemmas.Bool.{cases_Bool, cases_lt}
use Rattle.cohort_sizes.specs.Births.{born_count}
use Rattle.schema_facts.specs.Layout.{table_at}
use Rattle.life_intervals.specs.Generator.{Generator}
use Rattle.life_intervals.specs.Intervals.{is_live, row_at}
use Rattle.life_intervals.specs.Rows.{Row}
use Rattle.life_intervals.specs.Simulation.{holds_row, rows_at}
use Rattle.life_intervals.specs.Sound.{AreSound}
use Rattle.life_intervals.proofs.SimulationLemmas.{rows_at-rows_of}

-- the rows of the living among the ordinals of a range
abbrev living_rows : Generator → ℕ → ℕ → ℕ → ℕ → List Row
living_rows generator place unit a n = map (row_at generator place unit) (filter (is_live generator place unit) (range_with_len a n))

-- an ordinal outside of it is none of theirs
outside : (generator : Generator) (place unit a n ordinal : ℕ) → ((k : ℕ) → k < n → a + k ≡ ordinal → ⊥) → holds_row (living_rows generator place unit a n) ordinal ≡ false
outside generator place unit a zero ordinal apart = refl
outside generator place unit a (suc n) ordinal apart =
    let rest : holds_row (living_rows generator place unit (a + 1) n) ordinal ≡ false =
    outside generator place unit (a + 1) n ordinal (λ k below same. apart (k + 1) (omega arith) (omega (arith, same))) in
    elim (cases_Bool (is_live generator place unit a)) [
      | inl alive ↦ rw (alive, ne_eqb a ordinal (λ e. apart 0 (omega arith) (omega (arith, e)))) rest
      | inr dead ↦ rw dead rest
    ]

-- one inside is, where it is alive
inside : (generator : Generator) (place unit a n ordinal : ℕ) → a ≤ ordinal → ordinal < a + n →
    holds_row (living_rows generator place unit a n) ordinal ≡ is_live generator place unit ordinal
inside generator place unit a zero ordinal from below = absurd (omega arith)
inside generator place unit a (suc n) ordinal from below = elim (cases_lt a ordinal) [
  | inl later ↦
      let rest : holds_row (living_rows generator place unit (a + 1) n) ordinal ≡ is_live generator place unit ordinal =
      inside generator place unit (a + 1) n ordinal (omega arith) (omega arith) in
      elim (cases_Bool (is_live generator place unit a)) [
        | inl alive ↦ rw (alive, ne_eqb a ordinal (λ e. omega arith)) rest
        | inr dead ↦ rw dead rest
      ]
  | inr here ↦
      let same : a ≡ ordinal = omega arith in
      elim (cases_Bool (is_live generator place unit a)) [
        | inl alive ↦ rw (alive, eq-eqb a ordinal same) (sym (ap (is_live generator place unit) (sym same) ∙ alive))
        | inr dead ↦
            rw dead (outside generator place unit (a + 1) n ordinal (λ k below e. omega (arith, e, same))
            ∙ sym (ap (is_live generator place unit) (sym same) ∙ dead))
      ]
]

-- so the table holds no row that isn't born yet, and each other one where it is alive
pub holds_row-unborn : (units : ℕ) (generator : Generator) (place unit ordinal : ℕ) → AreSound units generator.tables → unit ≤ units →
    born_count (table_at generator.tables place).births unit ≤ ordinal → holds_row (rows_at generator place unit) ordinal ≡ false
holds_row-unborn units generator place unit ordinal sound within unborn =
    ap (λ (rows : List Row). holds_row rows ordinal) (rows_at-rows_of units generator place unit sound within)
    ∙ outside generator place unit 0 (born_count (table_at generator.tables place).births unit) ordinal (λ k below same. omega (arith, same))

pub holds_row-live : (units : ℕ) (generator : Generator) (place unit ordinal : ℕ) → AreSound units generator.tables → unit ≤ units →
    ordinal < born_count (table_at generator.tables place).births unit → holds_row (rows_at generator place unit) ordinal ≡ is_live generator place unit ordinal
holds_row-live units generator place unit ordinal sound within born =
    ap (λ (rows : List Row). holds_row rows ordinal) (rows_at-rows_of units generator place unit sound within)
    ∙ inside generator place unit 0 (born_count (table_at generator.tables place).births unit) ordinal (omega arith) (omega (arith, born))
