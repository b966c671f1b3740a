-- The undo texts of units, taken from the text of a table, make its text at an earlier unit.
use Rattle.std.proofs.Common.{◌≡◌, ℕ, zero, suc, ◌+◌, ◌-◌, ◌<◌, ◌≤◌, ◌^◌, ◌==◌, Bool, true, false, ◌&&◌, List, [], ◌∷◌, ◌++◌, count_by, decimal, filter, flat_map, length, map, Option, Some, None, inl, inr, add-one, eq-eqb, ne_eqb, true-eqb, refl, ap, arith, subst, sym, ◌∙◌, append_assoc}
use Rattle.std.specs.Prelude.{codes}
use Rattle.std.specs.List.{concat, join_with_byte, range_with_len}
use Rattle.std.proofs.lemmas.Bool.{and_from, and_parts, cases_Bool, cases_lt, false≢true, le-ltb, lt-ltb, true≢false}
use Rattle.std.proofs.lemmas.List.{length-map}
use Rattle.std.proofs.lemmas.List.Concat.{concat_is, flat_map-append}
use Rattle.std.proofs.lemmas.List.Folds.{concat-append, flat_map-map}
use Rattle.std.proofs.lemmas.List.FromFn.{length-range_with_len}
use Rattle.std.proofs.lemmas.List.Sums.{count_by-le-length, length-filter}
use Rattle.row_text.proofs.DigitLemmas.{escaped_text-decimal}
use Rattle.cohort_sizes.specs.Births.{Births, born_count, cohort_size, first_ordinal}
use Rattle.cohort_sizes.proofs.CohortLemmas.{born_count-le, born_count-next}
use Rattle.schema_facts.specs.Dictionaries.{Project}
use Rattle.schema_facts.specs.Layout.{no_table}
use Rattle.schema_plan.specs.Limits.{IsInLimits, IsTableInLimits}
use Rattle.life_intervals.specs.Generator.{Generator, generator_of, last_unit, table_of}
use Rattle.life_intervals.specs.Intervals.{change_unit, death, dying, is_after, is_at, is_live, newborn, row_at}
use Rattle.life_intervals.specs.Keys.{key_of}
use Rattle.life_intervals.specs.Rows.{Row}
use Rattle.life_intervals.specs.Simulation.{holds_row, rows_at}
use Rattle.life_intervals.specs.Sound.{AreSound}
use Rattle.life_intervals.specs.Streams.{deleted, inserted, updated}
use Rattle.life_intervals.proofs.AcceptedLemmas.{AreSound-accepted, place-below}
use Rattle.life_intervals.proofs.LifeLemmas.{death-later}
use Rattle.life_intervals.proofs.Ranges.{filter-range_with_len_all}
use Rattle.life_intervals.proofs.SimulationLemmas.{rows_at-rows_of}
use Rattle.life_intervals.proofs.StreamLemmas.{deleted-dying, inserted-newborn, updated-changing}
use Rattle.row_lines.specs.Lines.{line, table_text}
use Rattle.row_lines.proofs.RestedLineLemmas.{field_texts-next}
use Rattle.stream_apply.specs.KeyedLines.{KeyedLine, keyed}
use Rattle.stream_apply.proofs.NumberedLineLemmas.{lines_in}
use Rattle.stream_apply.specs.declared.key_fields.KeyFields.TheVariants.{One}
use Rattle.stream_apply.proofs.UnitLemmas.{IsKeyedText}
use Rattle.undo_streams.specs.InTurn.{IsRevertedText, IsUndoneInTurn}
use Rattle.undo_streams.specs.Reverting.{IsUndoneBy, UndoLine, undo_line_text, undos_text}
use Rattle.undo_streams.specs.UndoText.{add_line, drop_line, place_of, set_line, undo_lines, undo_text, updated_before}
use Rattle.undo_streams.proofs.KeyedLemmas.{key-line, row-line}
use Rattle.undo_streams.proofs.NumberedUndoLemmas.{adds_in, adds_text, drops_in, drops_text, lines_in-loaded, sets_in, sets_text, unit-undone}
use Rattle.undo_streams.proofs.PlaceLemmas.{place_of-living}
use Rattle.update_box.specs.Candidates.{dies_at}
use Rattle.update_box.proofs.KeyLineLemmas.{key-small}
use Rattle.update_box.proofs.KeyedTextLemmas.{body_text, key_text, keyed-text, keys-apart, live_lines, table_text-rows}
use Rattle.update_box.proofs.RangeLemmas.{filter-range_same, flat_map-filter_same}
use Rattle.update_box.proofs.StreamTextLemmas.{newborn-alive}
use Rattle.update_box.proofs.UpdateLemmas.{changes_at}
use Rattle.replay_files.specs.UndoLaws.{undo_texts}

-- ---- deaths

-- what dies at the next unit is alive at this one
next-alive : (death : Option ℕ) (unit : ℕ) → is_at death (unit + 1) ≡ true → is_after death unit ≡ true
next-alive None unit at = absurd (false≢true at)
next-alive (Some dies) unit at = lt-ltb unit dies (omega (arith, true-eqb dies (unit + 1) (sym at)))

-- and isn't at that
at-gone : (death : Option ℕ) (unit : ℕ) → is_at death unit ≡ true → is_after death unit ≡ false
at-gone None unit at = absurd (false≢true at)
at-gone (Some dies) unit at = elim (cases_lt unit dies) [
  | inl later ↦ absurd (omega (arith, later, true-eqb dies unit (sym at)))
  | inr past ↦ not_later unit dies past
]
  where
    not_later : (a b : ℕ) → b ≤ a → is_after (Some b) a ≡ false
    not_later a b past = le-ltb a b past

-- what doesn't is alive at both or at none
both-alive : (death : Option ℕ) (unit : ℕ) → is_at death (unit + 1) ≡ false → is_after death unit ≡ is_after death (unit + 1)
both-alive None unit other = refl
both-alive (Some dies) unit other = elim (cases_lt (unit + 1) dies) [
  | inl later ↦ lt-ltb unit dies (omega (arith, later)) ∙ sym (lt-ltb (unit + 1) dies later)
  | inr past ↦ elim (cases_lt unit dies) [
    | inl here ↦ absurd (true≢false (sym (eq-eqb dies (unit + 1) (omega (arith, here, past))) ∙ other))
    | inr over ↦ le-ltb unit dies over ∙ sym (le-ltb (unit + 1) dies past)
  ]
]

-- ---- rows of numbers that pass a test

-- one of them is that of a number where this passes
holds-passing : (generator : Generator) (place unit : ℕ) (p : ℕ → Bool) (a n j : ℕ) → a ≤ j → j < a + n → holds_row (map (row_at generator place unit) (filter p (range_with_len a n))) j ≡ p j
holds-passing generator place unit p a zero j low high = absurd (omega (arith, low, high))
holds-passing generator place unit p a (suc n) j low high = elim (cases_lt a j) [
  | inl later ↦
      let rest = holds-passing generator place unit p (a + 1) n j (omega (arith, later)) (omega (arith, high)) in
      elim (cases_Bool (p a)) [
        | inl passes ↦ rw (passes, ne_eqb a j (λ same. omega (arith, same, later))) rest
        | inr fails ↦ rw fails rest
      ]
  | inr here ↦
      let same : a ≡ j = omega (arith, here, low) in
      elim (cases_Bool (p a)) [
        | inl passes ↦ rw (passes, eq-eqb a j same) (sym passes ∙ ap p same)
        | inr fails ↦ rw fails (holds-none (a + 1) n (omega (arith, same))) ∙ sym (sym (ap p same) ∙ fails)
      ]
]
  where
    holds-none : (b m : ℕ) → j < b → holds_row (map (row_at generator place unit) (filter p (range_with_len b m))) j ≡ false
    holds-none b zero before = refl
    holds-none b (suc m) before =
        let rest = holds-none (b + 1) m (omega (arith, before)) in
        elim (cases_Bool (p b)) [
          | inl passes ↦ rw (passes, ne_eqb b j (λ same. omega (arith, same, before))) rest
          | inr fails ↦ rw fails rest
        ]

-- those whose numbers pass another test
filter-passing : (generator : Generator) (place unit : ℕ) (q p : ℕ → Bool) (xs : List ℕ) →
    filter (λ (row : Row). q row.ordinal) (map (row_at generator place unit) (filter p xs)) ≡ map (row_at generator place unit) (filter (λ j. p j && q j) xs)
filter-passing generator place unit q p [] = refl
filter-passing generator place unit q p (x ∷ xs) =
    let rest = filter-passing generator place unit q p xs in
    elim (cases_Bool (p x)) [
      | inr fails ↦ rw fails rest
      | inl passes ↦ elim (cases_Bool (q x)) [
        | inl both ↦ rw (passes, both) (ap (λ (rows : List Row). row_at generator place unit x ∷ rows) rest)
        | inr one ↦ rw (passes, one) rest
      ]
    ]

module _ (plan : Project) (limits : IsInLimits plan) (place : ℕ) (below : place < length plan.schema.tables) where
  abbrev generator : Generator
  generator = generator_of plan

  abbrev births : Births
  births = (table_of plan place).births

  abbrev key : ℕ → List ℕ
  key = key_text plan place

  abbrev text : ℕ → ℕ → List ℕ
  text = body_text plan place

  abbrev rows : ℕ → List KeyedLine
  rows = live_lines plan place

  abbrev size : ℕ
  size = born_count births (last_unit plan)

  sound : AreSound (last_unit plan) generator.tables
  sound = AreSound-accepted plan limits

  -- ---- the lines of a unit's undo text

  abbrev drops_of : ℕ → List UndoLine
  drops_of t = drops_in key (is_live generator place t) (first_ordinal births t) (cohort_size births t)

  abbrev sets_of : ℕ → ℕ → List UndoLine
  sets_of unit t = sets_in key (text unit) (changes_at plan place t) 0 (first_ordinal births t)

  abbrev adds_of : ℕ → ℕ → List UndoLine
  adds_of unit t = adds_in (place_of generator place unit) key (text unit) (dies_at plan place t) 0 (first_ordinal births t)

  all-born : (t : ℕ) → t ≤ last_unit plan → first_ordinal births t + cohort_size births t ≤ size
  all-born t within = omega (arith, born_count-next births t, born_count-le births t (last_unit plan) within)

  dropped-lines : (t : ℕ) → t ≤ last_unit plan →
      concat (map (drop_line generator (last_unit plan) place) (inserted generator place t)) ≡ undos_text generator.delimiter (drops_of t)
  dropped-lines t within =
      let first : ℕ = first_ordinal births t in
      let count : ℕ = cohort_size births t in
      let f : ℕ → List ℕ = λ j. drop_line generator (last_unit plan) place (row_at generator place t j) in
      let g : ℕ → List ℕ = λ j. codes "drop" ++ generator.delimiter ∷ (key j ++ 10 ∷ []) in
      concat-map (drop_line generator (last_unit plan) place) (inserted generator place t)
      ∙ ap (flat_map (drop_line generator (last_unit plan) place)) (inserted-newborn (last_unit plan) generator sound place (place-below plan place below) t within)
      ∙ flat_map-map (drop_line generator (last_unit plan) place) (row_at generator place t) (newborn generator place t)
      ∙ ap (flat_map f) (sym (filter-range_with_len_all (is_live generator place t) first count (newborn-alive plan limits place below t within)))
      ∙ flat_map-filter_same f g (is_live generator place t) first count
      (λ j low high.
      let small : j < size = omega (arith, high, all-born t within) in
      ap (λ (written : List ℕ). codes "drop" ++ generator.delimiter ∷ (written ++ 10 ∷ []))
      (escaped_text-decimal generator.delimiter (key_of generator place (last_unit plan) j) (key-small plan limits (last_unit plan) (omega arith) place below j small)))
      ∙ sym (drops_text generator.delimiter key (is_live generator place t) first count)
    where
      concat-map : {A : Type 0} (h : A → List ℕ) (xs : List A) → concat (map h xs) ≡ flat_map h xs
      concat-map h xs = concat_is (map h xs) ∙ flat_map-map (λ (x : List ℕ). x) h xs

  -- the rows that are set are those that change
  updated_before-changing : (unit : ℕ) → unit + 1 ≤ last_unit plan →
      updated_before generator place (unit + 1) ≡ map (row_at generator place unit) (filter (changes_at plan place (unit + 1)) (range_with_len 0 (first_ordinal births (unit + 1))))
  unfolding updated_before
  updated_before-changing unit within =
      let t : ℕ = unit + 1 in
      let first : ℕ = first_ordinal births t in
      let held : ℕ → Bool = holds_row (updated generator place t) in
      let live : ℕ → Bool = is_live generator place unit in
      let held_is : (j : ℕ) → j < first → held j ≡ changes_at plan place t j =
      λ j born.
      ap (λ (rows : List Row). holds_row rows j) (updated-changing (last_unit plan) generator sound place (place-below plan place below) t within)
      ∙ holds-passing generator place t (changes_at plan place t) 0 first j (omega arith) (omega (arith, born)) in
      by_next unit
      ∙ ap (filter (λ (row : Row). held row.ordinal)) (rows_at-rows_of (last_unit plan) generator place unit sound (omega (arith, within)))
      ∙ filter-passing generator place unit held live (range_with_len 0 first)
      ∙ ap (map (row_at generator place unit)) (filter-range_same (λ j. live j && held j) (changes_at plan place t) 0 first
      (λ j low high.
      ap (λ (b : Bool). live j && b) (held_is j (omega (arith, high)))
      ∙ among (live j) (is_live generator place t j) (change_unit generator place t j == t) (λ alive. was_alive j (omega (arith, high)) alive)))
    where
      by_next : (u : ℕ) → updated_before generator place (u + 1) ≡ filter (λ (row : Row). holds_row (updated generator place (u + 1)) row.ordinal) (rows_at generator place u)
      by_next u = rw (add-one u) refl

      was_alive : (j : ℕ) → j < first_ordinal births (unit + 1) → is_live generator place (unit + 1) j ≡ true → is_live generator place unit j ≡ true
      was_alive j born alive = before-alive (death generator place (unit + 1) j) (death generator place unit j) unit (death-later generator place unit (unit + 1) j born (omega arith)) alive
        where
          before-alive : (later now : Option ℕ) (u : ℕ) → later ≡ now → is_after later (u + 1) ≡ true → is_after now u ≡ true
          before-alive later None u same alive = refl
          before-alive later (Some dies) u same alive = elim (cases_lt (u + 1) dies) [
            | inl after ↦ lt-ltb u dies (omega (arith, after))
            | inr past ↦ absurd (true≢false (sym alive ∙ ap (λ (d : Option ℕ). is_after d (u + 1)) same ∙ le-ltb (u + 1) dies past))
          ]

      among : (before now changes : Bool) → (now ≡ true → before ≡ true) → (before && (now && changes)) ≡ (now && changes)
      among true now changes was = refl
      among false true changes was = absurd (false≢true (was refl))
      among false false changes was = refl

  set-lines : (unit : ℕ) → unit + 1 ≤ last_unit plan → concat (map (set_line generator unit place) (updated_before generator place (unit + 1))) ≡ undos_text generator.delimiter (sets_of unit (unit + 1))
  unfolding line
  set-lines unit within =
      let t : ℕ = unit + 1 in
      let first : ℕ = first_ordinal births t in
      let f : ℕ → List ℕ = λ j. set_line generator unit place (row_at generator place unit j) in
      let g : ℕ → List ℕ = λ j. codes "set" ++ generator.delimiter ∷ (text unit j ++ 10 ∷ []) in
      concat_is (map (set_line generator unit place) (updated_before generator place t))
      ∙ flat_map-map (λ (x : List ℕ). x) (set_line generator unit place) (updated_before generator place t)
      ∙ ap (flat_map (set_line generator unit place)) (updated_before-changing unit within)
      ∙ flat_map-map (set_line generator unit place) (row_at generator place unit) (filter (changes_at plan place t) (range_with_len 0 first))
      ∙ flat_map-filter_same f g (changes_at plan place t) 0 first (λ j low high. refl)
      ∙ sym (sets_text generator.delimiter key (text unit) (changes_at plan place t) 0 first)

  add-lines : (unit : ℕ) → unit + 1 ≤ last_unit plan → concat (map (add_line generator unit place) (deleted generator place (unit + 1))) ≡ undos_text generator.delimiter (adds_of unit (unit + 1))
  unfolding line
  add-lines unit within =
      let t : ℕ = unit + 1 in
      let first : ℕ = first_ordinal births t in
      let back : t - 1 ≡ unit = omega arith in
      let f : ℕ → List ℕ = λ j. add_line generator unit place (row_at generator place unit j) in
      let g : ℕ → List ℕ = λ j. codes "add" ++ generator.delimiter ∷ (decimal (place_of generator place unit j) ++ generator.delimiter ∷ (text unit j ++ 10 ∷ [])) in
      concat_is (map (add_line generator unit place) (deleted generator place t))
      ∙ flat_map-map (λ (x : List ℕ). x) (add_line generator unit place) (deleted generator place t)
      ∙ ap (flat_map (add_line generator unit place)) (deleted-dying (last_unit plan) generator sound place (place-below plan place below) t within ∙ ap (λ (u : ℕ). map (row_at generator place u) (dying generator place t)) back)
      ∙ flat_map-map (add_line generator unit place) (row_at generator place unit) (dying generator place t)
      ∙ flat_map-filter_same f g (dies_at plan place t) 0 first (λ j low high. refl)
      ∙ sym (adds_text generator.delimiter (place_of generator place unit) key (text unit) (dies_at plan place t) 0 first)

  undo_text-lines : (unit : ℕ) → unit + 1 ≤ last_unit plan →
      undo_text plan (unit + 1) place ≡ undos_text generator.delimiter (drops_of (unit + 1) ++ (sets_of unit (unit + 1) ++ adds_of unit (unit + 1)))
  unfolding undo_lines
  undo_text-lines unit within =
      let t : ℕ = unit + 1 in
      let back : t - 1 ≡ unit = omega arith in
      let drops : List (List ℕ) = map (drop_line generator (last_unit plan) place) (inserted generator place t) in
      let sets : ℕ → List (List ℕ) = λ u. map (set_line generator u place) (updated_before generator place t) in
      let adds : ℕ → List (List ℕ) = λ u. map (add_line generator u place) (deleted generator place t) in
      ap (λ (u : ℕ). concat ((drops ++ sets u) ++ adds u)) back
      ∙ ap concat (append_assoc drops (sets unit) (adds unit))
      ∙ concat-append drops (sets unit ++ adds unit)
      ∙ joined (dropped-lines t within) (concat-append (sets unit) (adds unit) ∙ joined (set-lines unit within) (add-lines unit within)
      ∙ sym (flat_map-append (λ (u : UndoLine). undo_line_text generator.delimiter u ++ 10 ∷ []) (sets_of unit t) (adds_of unit t)))
      ∙ sym (flat_map-append (λ (u : UndoLine). undo_line_text generator.delimiter u ++ 10 ∷ []) (drops_of t) (sets_of unit t ++ adds_of unit t))
    where
      joined : {a b c d : List ℕ} → a ≡ b → c ≡ d → a ++ c ≡ b ++ d
      joined {a} {b} {c} {d} first second = ap (λ (x : List ℕ). x ++ c) first ∙ ap (λ (x : List ℕ). b ++ x) second

  -- ---- a unit

  -- a row that lives on and isn't updated has the line that it had
  rested : (unit : ℕ) → unit + 1 ≤ last_unit plan → (ordinal : ℕ) → ordinal < born_count births unit → is_live generator place unit ordinal ≡ true →
      is_live generator place (unit + 1) ordinal ≡ true → (change_unit generator place (unit + 1) ordinal ≡ unit + 1 → ⊥) → text (unit + 1) ordinal ≡ text unit ordinal
  rested unit within ordinal born before alive still =
      subst (λ (at : ℕ). at ≤ last_unit plan → is_live generator place at ordinal ≡ true → (change_unit generator place at ordinal ≡ at → ⊥) → text at ordinal ≡ text unit ordinal)
      (sym (add-one unit))
      (λ within_next alive_next still_next. ap (join_with_byte generator.delimiter) (field_texts-next plan limits place below unit within_next ordinal born before alive_next still_next))
      within alive still

  -- the place of a row that is alive is how many lines stand before its own
  place-lines : (unit : ℕ) → unit ≤ last_unit plan → (j : ℕ) → j < born_count births unit → is_live generator place unit j ≡ true →
      (place_of generator place unit j ≡ length (lines_in key (text unit) (is_live generator place unit) 0 j)) × (place_of generator place unit j < 10 ^ 13)
  place-lines unit within j born alive =
      let live : ℕ → Bool = is_live generator place unit in
      let own : IsTableInLimits (last_unit plan) (table_of plan place) = limits.tables place no_table (place-below plan place below) in
      let counted : place_of generator place unit j ≡ count_by live (range_with_len 0 j) = place_of-living (last_unit plan) generator place unit j sound within born alive in
      let long : length (lines_in key (text unit) live 0 j) ≡ count_by live (range_with_len 0 j) =
      length-map (filter live (range_with_len 0 j)) (λ (i : ℕ). keyed (key i) (text unit i)) ∙ length-filter live (range_with_len 0 j) in
      let few : count_by live (range_with_len 0 j) ≤ j = omega (arith, count_by-le-length live (range_with_len 0 j), length-range_with_len 0 j) in
      (counted ∙ sym long, omega (arith, counted, few, born, born_count-le births unit (last_unit plan) within, own.births.row_limit))

  pub unit-reverted : (unit : ℕ) → unit + 1 ≤ last_unit plan → IsUndoneBy generator.delimiter (rows (unit + 1)) (undo_text plan (unit + 1) place) (rows unit)
  unit-reverted unit within =
      let t : ℕ = unit + 1 in
      let first : ℕ = first_ordinal births t in
      let count : ℕ = cohort_size births t in
      let all : first + count ≡ born_count births t = sym (born_count-next births t) in
      let same_death : (j : ℕ) → j < first → death generator place t j ≡ death generator place unit j = λ j born. death-later generator place unit t j born (omega arith) in
      let was : (j : ℕ) → j < first → is_after (death generator place t j) unit ≡ is_live generator place unit j =
      λ j born. ap (λ (d : Option ℕ). is_after d unit) (same_death j born) in
      let one_line : (u j : ℕ) → u ≤ last_unit plan → j < born_count births u → IsKeyedText One generator.delimiter (key j) (text u j) = λ u j reached born. keyed-text plan limits place below u reached j born in
      subst (λ (bytes : List ℕ). IsUndoneBy generator.delimiter (rows t) bytes (rows unit)) (sym (undo_text-lines unit within))
      (subst (λ (n : ℕ). IsUndoneBy generator.delimiter (lines_in key (text t) (is_live generator place t) 0 n)
      (undos_text generator.delimiter (drops_of t ++ (sets_of unit t ++ adds_of unit t))) (rows unit)) all
      (unit-undone generator.delimiter key size (keys-apart plan limits place below) (text unit) (text t) (is_live generator place unit) (is_live generator place t)
      (dies_at plan place t) (changes_at plan place t) (place_of generator place unit) first count (all-born t within)
      (λ j born. key-line generator.delimiter (key j) (text (last_unit plan) j) (one_line (last_unit plan) j (omega arith) born))
      (λ j born. row-line generator.delimiter (key j) (text unit j) (one_line unit j (omega (arith, within)) born))
      (λ j low high.
      let there : first + (j - first) ≡ j = omega (arith, low) in
      ap (is_live generator place t) (sym there) ∙ newborn-alive plan limits place below t within (j - first) (omega (arith, low, high)))
      (λ j born dies. (sym (was j born) ∙ next-alive (death generator place t j) unit dies, at-gone (death generator place t j) t dies))
      (λ j born lives. sym (was j born) ∙ both-alive (death generator place t j) unit lives)
      (λ j born changes. (and_parts (is_live generator place t j) (change_unit generator place t j == t) changes).0)
      (λ j born alive still.
      let dies : dies_at plan place t j ≡ false = not_dying j t alive in
      rested unit within j born (sym (was j born) ∙ both-alive (death generator place t j) unit dies ∙ alive) alive
      (λ same. true≢false (sym (and_from (is_live generator place t j) (change_unit generator place t j == t) alive (eq-eqb (change_unit generator place t j) t same)) ∙ still)))
      (λ j born dies. place-lines unit (omega (arith, within)) j born (sym (was j born) ∙ next-alive (death generator place t j) unit dies))))
    where
      not_dying : (j t : ℕ) → is_live generator place t j ≡ true → dies_at plan place t j ≡ false
      not_dying j t alive = elim (cases_Bool (dies_at plan place t j)) [
        | inl dies ↦ absurd (true≢false (sym alive ∙ at-gone (death generator place t j) t dies))
        | inr lives ↦ lives
      ]

  -- ---- units in turn

  rows-reverted : (count to : ℕ) → to + count ≤ last_unit plan → IsUndoneInTurn generator.delimiter (undo_texts plan place to count) (rows (to + count)) (rows to)
  rows-reverted zero to within = let here : to + 0 ≡ to = omega arith in ap rows here
  rows-reverted (suc count) to within =
      let next : to + suc count ≡ (to + count) + 1 = omega arith in
      let step : IsUndoneBy generator.delimiter (rows (to + suc count)) (undo_text plan (to + suc count) place) (rows (to + count)) =
      subst (λ (t : ℕ). IsUndoneBy generator.delimiter (rows t) (undo_text plan t place) (rows (to + count))) (sym next) (unit-reverted (to + count) (omega (arith, within, next))) in
      (rows (to + count), step, rows-reverted count to (omega (arith, within)))

  pub units-reverted : (to count : ℕ) → to + count ≤ last_unit plan →
      IsRevertedText generator.delimiter (table_text generator (to + count) place ∷ undo_texts plan place to count) (table_text generator to place)
  units-reverted to count within = (
    rows (to + count),
    rows to,
    lines_in-loaded generator.delimiter key size (keys-apart plan limits place below) (text (to + count)) (is_live generator place (to + count)) (born_count births (to + count))
        (table_text generator (to + count) place) (born_count-le births (to + count) (last_unit plan) within)
        (λ j born. row-line generator.delimiter (key j) (text (to + count) j) (keyed-text plan limits place below (to + count) within j born))
        (table_text-rows plan limits place below (to + count) within),
    rows-reverted count to within,
    table_text-rows plan limits place below to (omega (arith, within)),
  )
