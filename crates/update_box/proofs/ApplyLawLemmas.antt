-- The streams of units, applied to the text of a table, make its text at a later unit.
use Rattle.std.proofs.Common.{◌≡◌, ℕ, zero, suc, ◌+◌, ◌-◌, ◌<◌, ◌≤◌, ◌==◌, true, not, ◌&&◌, List, [], ◌∷◌, ◌++◌, flat_map, length, Option, Some, None, inl, inr, add-one, eq-eqb, ne_eqb, true-eqb, refl, ap, arith, subst, sym, ◌∙◌}
use Rattle.std.specs.List.{join_with_byte, range_with_len}
use Rattle.std.proofs.lemmas.Bool.{and_from, and_parts, cases_eq, cases_lt, false≢true, le-ltb, lt-ltb, true≢false}
use Rattle.cohort_sizes.specs.Births.{Births, born_count, cohort_size, first_ordinal}
use Rattle.schema_facts.specs.Dictionaries.{Project}
use Rattle.schema_plan.specs.Limits.{IsInLimits}
use Rattle.life_intervals.specs.Generator.{Generator, generator_of, last_unit, table_of}
use Rattle.life_intervals.specs.Intervals.{change_unit, death, is_after, is_at, is_live}
use Rattle.life_intervals.proofs.LifeLemmas.{death-later}
use Rattle.cohort_sizes.proofs.CohortLemmas.{born_count-le, born_count-next}
use Rattle.row_lines.specs.Lines.{table_text}
use Rattle.row_lines.proofs.RestedLineLemmas.{field_texts-next}
use Rattle.stream_apply.specs.InTurn.{IsAppliedText}
use Rattle.stream_apply.specs.KeyedLines.{KeyedLine}
use Rattle.stream_apply.specs.declared.key_fields.KeyFields.TheVariants.{One}
use Rattle.stream_apply.proofs.NumberedLineLemmas.{lines_in}
use Rattle.stream_apply.proofs.UnitLemmas.{IsMadeByUnits, applied-units, made-unit}
use Rattle.update_box.specs.Candidates.{dies_at}
use Rattle.update_box.specs.TextLaws.{unit_streams}
use Rattle.update_box.proofs.KeyedTextLemmas.{body_text, key_text, keyed-text, keys-apart, live_lines, table_text-rows, unit_streams-lines}
use Rattle.update_box.proofs.UpdateLemmas.{changes_at}

-- ---- deaths

-- what dies at the next unit is alive at this one
at_next-alive : (death : Option ℕ) (unit : ℕ) → is_at death (unit + 1) ≡ true → is_after death unit ≡ true
at_next-alive None unit at = absurd (false≢true at)
at_next-alive (Some dies) unit at = lt-ltb unit dies (omega (arith, true-eqb dies (unit + 1) (sym at)))

-- what is alive at this one and doesn't die at the next is alive there
after_next-alive : (death : Option ℕ) (unit : ℕ) → (is_after death unit && not (is_at death (unit + 1))) ≡ is_after death (unit + 1)
after_next-alive None unit = refl
after_next-alive (Some dies) unit = elim (cases_lt (unit + 1) dies) [
  | inl later ↦ rw (lt-ltb (unit + 1) dies later, lt-ltb unit dies (omega (arith, later)), ne_eqb dies (unit + 1) (λ same. omega (arith, same, later))) refl
  | inr past ↦ elim (cases_eq dies (unit + 1)) [
    | inl here ↦ rw (le-ltb (unit + 1) dies past, lt-ltb unit dies (omega (arith, here)), eq-eqb dies (unit + 1) here) refl
    | inr other ↦ rw (le-ltb (unit + 1) dies past, le-ltb unit dies (omega (arith, past, other))) refl
  ]
]

module _ (plan : Project) (limits : IsInLimits plan) (place : ℕ) (below : place < length plan.schema.tables) where
  abbrev generator : Generator
  generator = generator_of plan

  abbrev births : Births
  births = (table_of plan place).births

  abbrev key : ℕ → List ℕ
  key = key_text plan place

  abbrev text : ℕ → ℕ → List ℕ
  text = body_text plan place

  abbrev rows : ℕ → List KeyedLine
  rows = live_lines plan place

  -- ---- a unit

  -- what dies at the next unit is alive at this one, and what is alive at this one and doesn't die is alive at the next
  same_death : (unit j : ℕ) → j < born_count births unit → death generator place (unit + 1) j ≡ death generator place unit j
  same_death unit j born = death-later generator place unit (unit + 1) j born (omega arith)

  pub dying-alive : (unit j : ℕ) → j < born_count births unit → dies_at plan place (unit + 1) j ≡ true → is_live generator place unit j ≡ true
  dying-alive unit j born at = ap (λ (d : Option ℕ). is_after d unit) (sym (same_death unit j born)) ∙ at_next-alive (death generator place (unit + 1) j) unit at

  pub alive-next : (unit j : ℕ) → j < born_count births unit →
      (is_live generator place unit j && not (dies_at plan place (unit + 1) j)) ≡ is_live generator place (unit + 1) j
  alive-next unit j born =
      ap (λ (d : Option ℕ). is_after d unit && not (dies_at plan place (unit + 1) j)) (sym (same_death unit j born)) ∙ after_next-alive (death generator place (unit + 1) j) unit

  -- a row that lives on and isn't updated has the line that it had
  text-rested : (unit t : ℕ) → t ≡ unit + 1 → t ≤ last_unit plan → (ordinal : ℕ) → ordinal < born_count births unit →
      is_live generator place unit ordinal ≡ true → is_live generator place t ordinal ≡ true →
      (change_unit generator place t ordinal ≡ t → ⊥) → text unit ordinal ≡ text t ordinal
  text-rested unit t next within ordinal born before alive still =
      subst (λ (at : ℕ). at ≤ last_unit plan → is_live generator place at ordinal ≡ true → (change_unit generator place at ordinal ≡ at → ⊥) → text unit ordinal ≡ text at ordinal)
      (sym (next ∙ add-one unit))
      (λ within_next alive_next still_next.
      ap (join_with_byte generator.delimiter) (sym (field_texts-next plan limits place below unit within_next ordinal born before alive_next still_next)))
      within alive still

  -- its streams, applied to the rows of the unit before, make those of the unit, and what comes after them
  rows-next : (unit : ℕ) → unit + 1 ≤ last_unit plan → (streams : List (List ℕ)) (last : List KeyedLine) →
      IsMadeByUnits One generator.delimiter streams (rows (unit + 1)) last →
      IsMadeByUnits One generator.delimiter (unit_streams plan place (unit + 1) ++ streams) (rows unit) last
  rows-next unit within streams last made =
      let t : ℕ = unit + 1 in
      let all : first_ordinal births t + cohort_size births t ≡ born_count births t = sym (born_count-next births t) in
      let small : first_ordinal births t + cohort_size births t ≤ born_count births (last_unit plan) = omega (arith, all, born_count-le births t (last_unit plan) within) in
      subst (λ (of_unit : List (List ℕ)). IsMadeByUnits One generator.delimiter (of_unit ++ streams) (rows unit) last) (sym (unit_streams-lines plan limits place below t within))
      (made-unit One generator.delimiter key (born_count births (last_unit plan)) (keys-apart plan limits place below) (text unit) (text t)
      (is_live generator place unit) (dies_at plan place t) (changes_at plan place t) (is_live generator place t) (first_ordinal births t) (cohort_size births t) streams last small
      (λ j born. keyed-text plan limits place below t within j (omega (arith, born, all)))
      (dying-alive unit)
      (alive-next unit)
      (λ j born at. (and_parts (is_live generator place t j) (change_unit generator place t j == t) at).0)
      (λ j born alive rests.
      text-rested unit t refl within j born (and_parts (is_live generator place unit j) (not (dies_at plan place t j)) (alive-next unit j born ∙ alive)).0 alive
      (λ same. true≢false (sym (and_from (is_live generator place t j) (change_unit generator place t j == t) alive (eq-eqb (change_unit generator place t j) t same)) ∙ rests)))
      (subst (λ (n : ℕ). IsMadeByUnits One generator.delimiter streams (lines_in key (text t) (is_live generator place t) 0 n) last) (sym all) made))

  -- ---- units in turn

  rows-after : (count from : ℕ) → from + count ≤ last_unit plan →
      IsMadeByUnits One generator.delimiter (flat_map (unit_streams plan place) (range_with_len (from + 1) count)) (rows from) (rows (from + count))
  rows-after zero from within = let here : from ≡ from + 0 = omega arith in ap rows here
  rows-after (suc count) from within =
      let next : (from + 1) + count ≡ from + suc count = omega arith in
      rows-next from (omega (arith, within)) (flat_map (unit_streams plan place) (range_with_len (from + 1 + 1) count)) (rows (from + suc count))
      (subst (λ (unit : ℕ). IsMadeByUnits One generator.delimiter (flat_map (unit_streams plan place) (range_with_len (from + 1 + 1) count)) (rows (from + 1)) (rows unit)) next
      (rows-after count (from + 1) (omega (arith, within))))

  pub units-applied : (from count : ℕ) → from + count ≤ last_unit plan →
      IsAppliedText One generator.delimiter (table_text generator from place ∷ flat_map (unit_streams plan place) (range_with_len (from + 1) count)) (table_text generator (from + count) place)
  units-applied from count within =
      applied-units One generator.delimiter key (born_count births (last_unit plan)) (keys-apart plan limits place below) (table_text generator from place) (table_text generator (from + count) place)
      (text from) (is_live generator place from) 0 (born_count births from) (flat_map (unit_streams plan place) (range_with_len (from + 1) count)) (rows (from + count))
      (omega (arith, born_count-le births from (last_unit plan) (omega (arith, within))))
      (λ j low high. keyed-text plan limits place below from (omega (arith, within)) j (omega (arith, high)))
      (table_text-rows plan limits place below from (omega (arith, within))) (table_text-rows plan limits place below (from + count) within) (rows-after count from within)

  -- no unit, and one
  pub text-applied : (unit : ℕ) → unit ≤ last_unit plan →
      IsAppliedText One generator.delimiter (table_text generator unit place ∷ []) (table_text generator unit place)
  text-applied unit within =
      let here : unit + 0 ≡ unit = omega arith in
      subst (λ (at : ℕ). IsAppliedText One generator.delimiter (table_text generator unit place ∷ []) (table_text generator at place)) here
      (units-applied unit 0 (omega (arith, within)))

  pub unit-applied : (t : ℕ) → 1 ≤ t → t ≤ last_unit plan →
      IsAppliedText One generator.delimiter (table_text generator (t - 1) place ∷ unit_streams plan place t) (table_text generator t place)
  unit-applied t some within =
      let here : (t - 1) + 1 ≡ t = omega (arith, some) in
      subst (λ (at : ℕ). IsAppliedText One generator.delimiter (table_text generator (t - 1) place ∷ unit_streams plan place at) (table_text generator at place)) here
      (units-applied (t - 1) 1 (omega (arith, some, within)))
