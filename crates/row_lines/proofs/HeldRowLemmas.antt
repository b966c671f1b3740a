-- The row of an ordinal that a table holds: that of the closed form where it is born and alive, and none where it isn't.
use Rattle.std.proofs.Common.{◌≡◌, ℕ, zero, suc, ◌+◌, ◌<◌, ◌≤◌, ◌==◌, true, false, filter, map, Option, Some, None, inl, inr, ne_eqb, eq-eqb, refl, ap, arith, sym, ◌∙◌}
use Rattle.std.specs.List.{find, range_with_len}
use Rattle.std.proofs.lemmas.Bool.{cases_Bool, cases_lt, false≢true}
use Rattle.cohort_sizes.specs.Births.{born_count}
use Rattle.schema_facts.specs.Layout.{table_at}
use Rattle.life_intervals.specs.Generator.{Generator}
use Rattle.life_intervals.specs.Intervals.{is_live, row_at}
use Rattle.life_intervals.specs.Rows.{Row}
use Rattle.life_intervals.specs.Sound.{AreSound}
use Rattle.life_intervals.proofs.SimulationLemmas.{rows_at-rows_of}
use Rattle.row_lines.specs.Lines.{held_row}

module _ (generator : Generator) (place unit ordinal : ℕ) where
  -- the row of the ordinal among those of the living of a range
  abbrev found_in : ℕ → ℕ → Option Row
  found_in a n =
      find (λ (row : Row). row.ordinal == ordinal) (map (row_at generator place unit) (filter (is_live generator place unit) (range_with_len a n)))

  -- none has it where the ordinal is none of theirs
  outside : (a n : ℕ) → ((k : ℕ) → k < n → is_live generator place unit (a + k) ≡ true → a + k ≡ ordinal → ⊥) → found_in a n ≡ None
  outside a zero apart = refl
  outside a (suc n) apart =
      let rest : found_in (a + 1) n ≡ None =
      outside (a + 1) n (λ k below alive same.
      let next : a + (k + 1) ≡ (a + 1) + k = omega arith in
      apart (k + 1) (omega arith) (ap (is_live generator place unit) next ∙ alive) (next ∙ same)) in
      let here : a + 0 ≡ a = omega arith in
      elim (cases_Bool (is_live generator place unit a)) [
        | inl alive ↦ rw (alive, ne_eqb a ordinal (λ same. apart 0 (omega arith) (ap (is_live generator place unit) here ∙ alive) (here ∙ same))) rest
        | inr dead ↦ rw dead rest
      ]

  -- where it is, that is its row
  inside : (a n : ℕ) → a ≤ ordinal → ordinal < a + n → is_live generator place unit ordinal ≡ true → found_in a n ≡ Some (row_at generator place unit ordinal)
  inside a zero from below alive = absurd (omega arith)
  inside a (suc n) from below alive = elim (cases_lt a ordinal) [
    | inl later ↦
        let rest : found_in (a + 1) n ≡ Some (row_at generator place unit ordinal) = inside (a + 1) n (omega arith) (omega arith) alive in
        elim (cases_Bool (is_live generator place unit a)) [
          | inl alive_too ↦ rw (alive_too, ne_eqb a ordinal (λ same. omega arith)) rest
          | inr dead ↦ rw dead rest
        ]
    | inr here ↦
        let same : a ≡ ordinal = omega arith in
        let alive_here : is_live generator place unit a ≡ true = ap (is_live generator place unit) same ∙ alive in
        rw (alive_here, eq-eqb a ordinal same) (ap (λ (j : ℕ). Some (row_at generator place unit j)) same)
  ]

-- so a table holds the row of an ordinal that is born by the unit and alive
pub held_row-live : (units : ℕ) (generator : Generator) (place unit ordinal : ℕ) → AreSound units generator.tables → unit ≤ units →
    ordinal < born_count (table_at generator.tables place).births unit → is_live generator place unit ordinal ≡ true →
    held_row generator place unit ordinal ≡ Some (row_at generator place unit ordinal)
held_row-live units generator place unit ordinal sound within born alive =
    ap (find (λ (row : Row). row.ordinal == ordinal)) (rows_at-rows_of units generator place unit sound within)
    ∙ inside generator place unit ordinal 0 (born_count (table_at generator.tables place).births unit) (omega arith) (omega (arith, born)) alive

-- and none of an ordinal that isn't born yet
pub held_row-unborn : (units : ℕ) (generator : Generator) (place unit ordinal : ℕ) → AreSound units generator.tables → unit ≤ units →
    born_count (table_at generator.tables place).births unit ≤ ordinal → held_row generator place unit ordinal ≡ None
held_row-unborn units generator place unit ordinal sound within unborn =
    ap (find (λ (row : Row). row.ordinal == ordinal)) (rows_at-rows_of units generator place unit sound within)
    ∙ outside generator place unit ordinal 0 (born_count (table_at generator.tables place).births unit) (λ k below alive same. omega (arith, same))

-- or isn't alive
pub held_row-none : (units : ℕ) (generator : Generator) (place unit ordinal : ℕ) → AreSound units generator.tables → unit ≤ units →
    is_live generator place unit ordinal ≡ false → held_row generator place unit ordinal ≡ None
held_row-none units generator place unit ordinal sound within dead =
    ap (find (λ (row : Row). row.ordinal == ordinal)) (rows_at-rows_of units generator place unit sound within)
    ∙ outside generator place unit ordinal 0 (born_count (table_at generator.tables place).births unit)
    (λ k below alive same. false≢true (sym dead ∙ ap (is_live generator place unit) (sym same) ∙ alive))
