-- The streams of units, applied to the text of a detail table, make its text at a later unit.
use Rattle.std.proofs.Common.{◌≡◌, ℕ, zero, suc, ◌+◌, ◌-◌, ◌*◌, ◌%◌, ◌<◌, ◌≤◌, ◌==◌, ◌^◌, nat_lt, Bool, true, false, not, ◌&&◌, Option, List, [], ◌∷◌, ◌++◌, decimal, filter, flat_map, length, map, add-one, eq-eqb, refl, ap, ap₂, arith, sym, subst, ◌∙◌}
use Rattle.std.specs.List.{range_with_len}
use Rattle.std.proofs.lemmas.Bool.{and_from, and_parts, true≢false}
use Rattle.std.proofs.lemmas.Fmt.{decimal_injective}
use Rattle.std.proofs.lemmas.List.Folds.{flat_map-map}
use Rattle.std.proofs.lemmas.Nat.{div_below, mod_below}
use Rattle.philox_seeds.specs.SeedTree.{field_draw}
use Rattle.row_text.specs.Fields.{IsDelimiter}
use Rattle.row_text.specs.Lines.{IsLineBody, line_text}
use Rattle.row_text.proofs.ReadLemmas.{IsLineBody-same}
use Rattle.cohort_sizes.specs.Births.{Births, born_count, cohort_size, first_ordinal}
use Rattle.cohort_sizes.proofs.CohortLemmas.{born_count-le, born_count-next}
use Rattle.schema_facts.specs.Dictionaries.{Project}
use Rattle.schema_plan.specs.Limits.{IsInLimits}
use Rattle.life_intervals.specs.Generator.{Generator, generator_of, last_unit, table_of}
use Rattle.life_intervals.specs.Intervals.{change_unit, dying, is_live, row_at}
use Rattle.life_intervals.specs.Keys.{key_of}
use Rattle.life_intervals.specs.Rows.{Row}
use Rattle.life_intervals.specs.Sound.{AreSound}
use Rattle.life_intervals.proofs.AcceptedLemmas.{AreSound-accepted, place-below}
use Rattle.life_intervals.proofs.KeyLemmas.{OrdersCohorts-generator_of, key_of-one_to_one}
use Rattle.life_intervals.proofs.SimulationLemmas.{rows_at-rows_of}
use Rattle.life_intervals.proofs.StreamLemmas.{deleted-dying, inserted-newborn, updated-changing}
use Rattle.row_lines.proofs.LineLemmas.{birth-by, key_of-by}
use Rattle.row_lines.proofs.RestedLineLemmas.{by_form}
use Rattle.stream_apply.specs.InTurn.{IsAppliedText}
use Rattle.stream_apply.specs.KeyedLines.{KeyedLine, keyed, lines_text}
use Rattle.stream_apply.specs.Streams.{text_fields}
use Rattle.stream_apply.specs.declared.key_fields.KeyFields.TheVariants.{Two}
use Rattle.stream_apply.proofs.NumberedLineLemmas.{AreKeys, lines_in}
use Rattle.stream_apply.proofs.UnitLemmas.{IsKeyedText, IsMadeByUnits, applied-units, made-unit}
use Rattle.update_box.specs.Candidates.{dies_at}
use Rattle.update_box.proofs.ApplyLawLemmas.{alive-next, dying-alive}
use Rattle.update_box.proofs.KeyLineLemmas.{key-small}
use Rattle.update_box.proofs.RangeLemmas.{flat_map-filter_same}
use Rattle.update_box.proofs.StreamTextLemmas.{newborn-live}
use Rattle.update_box.proofs.UpdateLemmas.{changes_at}
use Rattle.detail_plan.specs.Kept.{Kept, KeepsRules}
use Rattle.detail_rows.specs.Applying.{detail_streams}
use Rattle.detail_lines.specs.Lines.{DetailLayout, Line, count_column, detail_deleted_text, detail_inserted_text, detail_line, detail_text, detail_updated_text, key_line, key_lines_of_row, key_of_row, layout_beside, line_count, lines_of_draw, lines_of_row, parent_place, value_fields}
use Rattle.detail_lines.proofs.DeclaredLemmas.{parent-below}
use Rattle.detail_laws.proofs.LineCountLemmas.{few-lines}
use Rattle.detail_laws.proofs.LineFormLemmas.{value_fields-form}
use Rattle.detail_laws.proofs.NumberedRowLemmas.{alike, is_line, lines-rows, number_of, number_of-at, row_of, row_of-at}

-- a test of a row, of those of its numbers that stand for lines
stays : (before dies small : Bool) → ((before && small) && not (dies && small)) ≡ ((before && not dies) && small)
stays true true true = refl
stays true true false = refl
stays true false true = refl
stays true false false = refl
stays false dies small = refl

both : (before dies live small : Bool) → (before && not dies) ≡ live → ((before && small) && not (dies && small)) ≡ (live && small)
both before dies live small is = stays before dies small ∙ ap (λ (b : Bool). b && small) is

module _ (plan : Project) (limits : IsInLimits plan) (kept : Kept) (keeps : KeepsRules plan kept) where
  abbrev generator : Generator
  generator = generator_of plan

  abbrev last : ℕ
  last = last_unit plan

  abbrev place : ℕ
  place = parent_place plan kept.detail

  below : place < length plan.schema.tables
  below = parent-below plan kept keeps

  abbrev sound : AreSound (last_unit plan) (generator_of plan).tables
  sound = AreSound-accepted plan limits

  abbrev births : Births
  births = (table_of plan place).births

  abbrev row : ℕ → ℕ → Row
  row unit j = row_at generator place unit j

  abbrev layout : DetailLayout
  layout = layout_beside plan kept

  -- the line of a number of a row
  abbrev line : Row → ℕ → Line
  line of number = record { generator = generator; detail = layout; row = of; number = number }

  -- ---- lines by their numbers

  -- how many lines a row has
  abbrev pub lines_of : ℕ → ℕ
  lines_of j = line_count layout (row last j)

  few : (j : ℕ) → lines_of j ≤ 64
  few j = few-lines plan kept keeps (row last j)

  lines_of-by : (unit : ℕ) → unit ≤ last → (j : ℕ) → j < born_count births unit → line_count layout (row unit j) ≡ lines_of j
  lines_of-by unit within j born = ap (λ (at : ℕ). lines_of_draw layout (field_draw layout.seed 0 count_column at j 1)) (sym (birth-by births last unit j within born))

  -- the two texts that tell the key, and the key as it is written
  abbrev pub front : ℕ → List (List ℕ)
  front n = decimal (key_of generator place last (row_of n)) ∷ decimal (number_of n) ∷ []

  abbrev pub key : ℕ → List ℕ
  key n = line_text generator.delimiter (text_fields (front n))

  -- a line, without its line feed
  abbrev pub text : ℕ → ℕ → List ℕ
  text unit n = line_text generator.delimiter (text_fields (front n) ++ value_fields (line (row unit (row_of n)) (number_of n)))

  pub keyed-text : (unit n : ℕ) → IsKeyedText Two generator.delimiter (key n) (text unit n)
  keyed-text unit n = record {
    front = front n;
    others = value_fields (line (row unit (row_of n)) (number_of n));
    count = refl;
    written = refl;
    key_written = refl;
  }

  key_of_row-by : (unit : ℕ) → unit ≤ last → (j : ℕ) → j < born_count births unit → key_of_row generator place (row unit j) ≡ key_of generator place last j
  unfolding key_of
  key_of_row-by unit within j born = sym (key_of-by generator last unit place j within born)

  key_line-is : (unit : ℕ) → unit ≤ last → (j : ℕ) → j < born_count births unit → (k : ℕ) → k < 64 →
      key_line generator place (row unit j) (1 + k) ≡ key (j * 64 + k) ++ 10 ∷ []
  key_line-is unit within j born k small =
      let written : ℕ → ℕ → List ℕ = λ of number. line_text generator.delimiter (text_fields (decimal of ∷ decimal number ∷ [])) ++ 10 ∷ [] in
      let swapped : 1 + k ≡ k + 1 = omega arith in
      ap₂ written (key_of_row-by unit within j born ∙ ap (key_of generator place last) (sym (row_of-at j k small))) (swapped ∙ sym (number_of-at j k small))

  line-is : (unit : ℕ) → unit ≤ last → (j : ℕ) → j < born_count births unit → (k : ℕ) → k < 64 →
      detail_line generator place layout (row unit j) (1 + k) ≡ text unit (j * 64 + k) ++ 10 ∷ []
  line-is unit within j born k small =
      let written : ℕ → ℕ → ℕ → List ℕ =
      λ of ordinal number. line_text generator.delimiter (text_fields (decimal of ∷ decimal number ∷ []) ++ value_fields (line (row unit ordinal) number)) ++ 10 ∷ [] in
      let swapped : 1 + k ≡ k + 1 = omega arith in
      ap (λ (of : ℕ). written of j (1 + k)) (key_of_row-by unit within j born)
      ∙ ap₂ (λ (ordinal number : ℕ). written (key_of generator place last ordinal) ordinal number) (sym (row_of-at j k small)) (swapped ∙ sym (number_of-at j k small))

  -- those of a row
  row-lines : (unit : ℕ) → unit ≤ last → (j : ℕ) → j < born_count births unit →
      lines_of_row generator place layout (row unit j) ≡ flat_map (λ (n : ℕ). text unit n ++ 10 ∷ []) (range_with_len (j * 64) (lines_of j))
  unfolding lines_of_row
  row-lines unit within j born =
      ap (λ (c : ℕ). flat_map (detail_line generator place layout (row unit j)) (range_with_len 1 c)) (lines_of-by unit within j born)
      ∙ alike (detail_line generator place layout (row unit j)) (λ (n : ℕ). text unit n ++ 10 ∷ []) 1 (j * 64) (lines_of j)
      (λ k inside. line-is unit within j born k (omega (arith, inside, few j)))

  row-keys : (unit : ℕ) → unit ≤ last → (j : ℕ) → j < born_count births unit →
      key_lines_of_row generator place layout (row unit j) ≡ flat_map (λ (n : ℕ). key n ++ 10 ∷ []) (range_with_len (j * 64) (lines_of j))
  unfolding key_lines_of_row
  row-keys unit within j born =
      ap (λ (c : ℕ). flat_map (key_line generator place (row unit j)) (range_with_len 1 c)) (lines_of-by unit within j born)
      ∙ alike (key_line generator place (row unit j)) (λ (n : ℕ). key n ++ 10 ∷ []) 1 (j * 64) (lines_of j)
      (λ k inside. key_line-is unit within j born k (omega (arith, inside, few j)))

  -- of rows of a range that pass a test
  abbrev pub numbered : (ℕ → List ℕ) → (ℕ → Bool) → ℕ → ℕ → List KeyedLine
  numbered of p a n = lines_in key of (is_line p lines_of) (a * 64) (n * 64)

  texts-numbered : (of : ℕ → List ℕ) (p : ℕ → Bool) (a n : ℕ) →
      flat_map (λ (m : ℕ). of m ++ 10 ∷ []) (filter (is_line p lines_of) (range_with_len (a * 64) (n * 64))) ≡ lines_text (numbered of p a n)
  texts-numbered of p a n =
      sym (flat_map-map (λ (line : KeyedLine). line.text ++ 10 ∷ []) (λ (m : ℕ). keyed (key m) (of m)) (filter (is_line p lines_of) (range_with_len (a * 64) (n * 64))))

  rows-text : (unit : ℕ) → unit ≤ last → (p : ℕ → Bool) (a n : ℕ) → a + n ≤ born_count births unit →
      flat_map (lines_of_row generator place layout) (map (row unit) (filter p (range_with_len a n))) ≡ lines_text (numbered (text unit) p a n)
  rows-text unit within p a n inside =
      flat_map-map (lines_of_row generator place layout) (row unit) (filter p (range_with_len a n))
      ∙ flat_map-filter_same (λ (j : ℕ). lines_of_row generator place layout (row unit j)) (λ (j : ℕ). flat_map (λ (m : ℕ). text unit m ++ 10 ∷ []) (range_with_len (j * 64) (lines_of j))) p a n
      (λ j low high. row-lines unit within j (omega (arith, high, inside)))
      ∙ lines-rows (λ (m : ℕ). text unit m ++ 10 ∷ []) p lines_of few a n
      ∙ texts-numbered (text unit) p a n

  rows-keys : (unit : ℕ) → unit ≤ last → (p : ℕ → Bool) (a n : ℕ) → a + n ≤ born_count births unit →
      flat_map (key_lines_of_row generator place layout) (map (row unit) (filter p (range_with_len a n))) ≡ lines_text (numbered key p a n)
  rows-keys unit within p a n inside =
      flat_map-map (key_lines_of_row generator place layout) (row unit) (filter p (range_with_len a n))
      ∙ flat_map-filter_same (λ (j : ℕ). key_lines_of_row generator place layout (row unit j)) (λ (j : ℕ). flat_map (λ (m : ℕ). key m ++ 10 ∷ []) (range_with_len (j * 64) (lines_of j))) p a n
      (λ j low high. row-keys unit within j (omega (arith, high, inside)))
      ∙ lines-rows (λ (m : ℕ). key m ++ 10 ∷ []) p lines_of few a n
      ∙ texts-numbered key p a n

  -- ---- texts

  -- the lines of the rows that are alive at a unit
  abbrev pub live_lines : ℕ → List KeyedLine
  live_lines unit = lines_in key (text unit) (is_line (is_live generator place unit) lines_of) 0 (born_count births unit * 64)

  from_none : (of : ℕ → List ℕ) (p : ℕ → Bool) (n : ℕ) → numbered of p 0 n ≡ lines_in key of (is_line p lines_of) 0 (n * 64)
  from_none of p n = let none : 0 * 64 ≡ 0 = omega arith in ap (λ (a : ℕ). lines_in key of (is_line p lines_of) a (n * 64)) none

  pub detail_text-lines : (unit : ℕ) → unit ≤ last → detail_text plan kept unit ≡ lines_text (live_lines unit)
  detail_text-lines unit within =
      ap (flat_map (lines_of_row generator place layout)) (rows_at-rows_of last generator place unit sound within)
      ∙ rows-text unit within (is_live generator place unit) 0 (born_count births unit) (omega arith)
      ∙ ap lines_text (from_none (text unit) (is_live generator place unit) (born_count births unit))

  -- what the next unit deletes, updates and inserts
  deleted-lines : (unit : ℕ) → unit + 1 ≤ last →
      detail_deleted_text plan kept (unit + 1) ≡ lines_text (lines_in key key (is_line (dies_at plan place (unit + 1)) lines_of) 0 (first_ordinal births (unit + 1) * 64))
  deleted-lines unit within =
      let back : unit + 1 - 1 ≡ unit = omega arith in
      ap (flat_map (key_lines_of_row generator place layout)) (deleted-dying last generator sound place (place-below plan place below) (unit + 1) within)
      ∙ ap (λ (at : ℕ). flat_map (key_lines_of_row generator place layout) (map (row at) (dying generator place (unit + 1)))) back
      ∙ rows-keys unit (omega (arith, within)) (dies_at plan place (unit + 1)) 0 (born_count births unit) (omega arith)
      ∙ ap lines_text (from_none key (dies_at plan place (unit + 1)) (born_count births unit))

  updated-lines : (unit : ℕ) → unit ≤ last →
      detail_updated_text plan kept unit ≡ lines_text (lines_in key (text unit) (is_line (changes_at plan place unit) lines_of) 0 (first_ordinal births unit * 64))
  updated-lines unit within =
      ap (flat_map (lines_of_row generator place layout)) (updated-changing last generator sound place (place-below plan place below) unit within)
      ∙ rows-text unit within (changes_at plan place unit) 0 (first_ordinal births unit) (omega (arith, born_count-next births unit))
      ∙ ap lines_text (from_none (text unit) (changes_at plan place unit) (first_ordinal births unit))

  inserted-lines : (unit : ℕ) → unit ≤ last →
      detail_inserted_text plan kept unit ≡ lines_text (lines_in key (text unit) (is_line (is_live generator place unit) lines_of) (first_ordinal births unit * 64) (cohort_size births unit * 64))
  inserted-lines unit within =
      ap (flat_map (lines_of_row generator place layout)) (inserted-newborn last generator sound place (place-below plan place below) unit within)
      ∙ ap (λ (js : List ℕ). flat_map (lines_of_row generator place layout) (map (row unit) js)) (sym (newborn-live plan limits place below unit within))
      ∙ rows-text unit within (is_live generator place unit) (first_ordinal births unit) (cohort_size births unit) (omega (arith, born_count-next births unit))

  -- ---- keys

  number-small : (n : ℕ) → number_of n < 2 ^ 64
  number-small n = omega (arith, mod_below n 64 (omega arith))

  body : (n : ℕ) → IsLineBody generator.delimiter (text_fields (front n)) (key n)
  body n = record { some = omega arith; written = refl }

  pub row-born : (unit n : ℕ) → n < born_count births unit * 64 → row_of n < born_count births unit
  row-born unit n inside = div_below n 64 (born_count births unit) (omega arith) inside

  pub keys-apart : IsDelimiter generator.delimiter → AreKeys key (born_count births last * 64)
  keys-apart delimits n m small_n small_m same =
      let fields : text_fields (front n) ≡ text_fields (front m) =
      IsLineBody-same generator.delimiter delimits (text_fields (front n)) (text_fields (front m)) (key m) (subst (IsLineBody generator.delimiter (text_fields (front n))) same (body n)) (body m) in
      let rows : decimal (key_of generator place last (row_of n)) ≡ decimal (key_of generator place last (row_of m)) = cc in
      let numbers : decimal (number_of n) ≡ decimal (number_of m) = cc in
      let born_n = row-born last n small_n in
      let born_m = row-born last m small_m in
      let same_row : row_of n ≡ row_of m =
      key_of-one_to_one generator place (OrdersCohorts-generator_of plan place) last (row_of n) (row_of m) born_n born_m
      (decimal_injective (key_of generator place last (row_of n)) (key_of generator place last (row_of m))
      (key-small plan limits last (omega arith) place below (row_of n) born_n) (key-small plan limits last (omega arith) place below (row_of m) born_m) rows) in
      let same_number : number_of n ≡ number_of m = decimal_injective (number_of n) (number_of m) (number-small n) (number-small m) numbers in
      omega (arith, same_row, same_number)

  -- ---- a unit

  -- a row that lives on and isn't updated has the lines that it had
  text-next : (unit n : ℕ) → suc unit ≤ last → row_of n < born_count births unit → is_live generator place unit (row_of n) ≡ true → is_live generator place (suc unit) (row_of n) ≡ true →
      (change_unit generator place (suc unit) (row_of n) ≡ suc unit → ⊥) → text unit n ≡ text (suc unit) n
  text-next unit n within born before alive still =
      let earlier : Row = row unit (row_of n) in
      let written : List (Option (List ℕ)) → List ℕ = λ fields. line_text generator.delimiter (text_fields (front n) ++ fields) in
      sym (by_form plan limits place below unit within (row_of n) born before alive still (λ (of : Row). written (value_fields (line of (number_of n)))))
      ∙ ap written (value_fields-form (line (row (suc unit) (row_of n)) (number_of n)) earlier.left earlier.wait)

  text-rested : (unit n : ℕ) → unit + 1 ≤ last → row_of n < born_count births unit → is_live generator place unit (row_of n) ≡ true → is_live generator place (unit + 1) (row_of n) ≡ true →
      (change_unit generator place (unit + 1) (row_of n) ≡ unit + 1 → ⊥) → text unit n ≡ text (unit + 1) n
  text-rested unit n within born before alive still =
      subst (λ (at : ℕ). at ≤ last → is_live generator place at (row_of n) ≡ true → (change_unit generator place at (row_of n) ≡ at → ⊥) → text unit n ≡ text at n) (sym (add-one unit))
      (λ within_next alive_next still_next. text-next unit n within_next born before alive_next still_next) within alive still

  -- its streams, applied to the lines of the unit before, make those of the unit, and what comes after them
  lines-next : IsDelimiter generator.delimiter → (unit : ℕ) → unit + 1 ≤ last → (streams : List (List ℕ)) (end : List KeyedLine) →
      IsMadeByUnits Two generator.delimiter streams (live_lines (unit + 1)) end →
      IsMadeByUnits Two generator.delimiter (detail_streams plan kept (unit + 1) ++ streams) (live_lines unit) end
  lines-next delimits unit within streams end made =
      let t : ℕ = unit + 1 in
      let first : ℕ = first_ordinal births t in
      let born : ℕ = cohort_size births t in
      let sum : first * 64 + born * 64 ≡ born_count births t * 64 = omega (arith, born_count-next births t) in
      let streams_are : detail_streams plan kept t
      ≡ lines_text (lines_in key key (is_line (dies_at plan place t) lines_of) 0 (first * 64))
      ∷ lines_text (lines_in key (text t) (is_line (changes_at plan place t) lines_of) 0 (first * 64))
      ∷ lines_text (lines_in key (text t) (is_line (is_live generator place t) lines_of) (first * 64) (born * 64)) ∷ [] =
      let deletes : detail_deleted_text plan kept t ≡ _ = deleted-lines unit within in
      let updates : detail_updated_text plan kept t ≡ _ = updated-lines t within in
      let inserts : detail_inserted_text plan kept t ≡ _ = inserted-lines t within in
      cc in
      subst (λ (of_unit : List (List ℕ)). IsMadeByUnits Two generator.delimiter (of_unit ++ streams) (live_lines unit) end) (sym streams_are)
      (made-unit Two generator.delimiter key (born_count births last * 64) (keys-apart delimits) (text unit) (text t)
      (is_line (is_live generator place unit) lines_of) (is_line (dies_at plan place t) lines_of) (is_line (changes_at plan place t) lines_of) (is_line (is_live generator place t) lines_of)
      (first * 64) (born * 64) streams end (omega (arith, sum, born_count-le births t last within))
      (λ n inside. keyed-text t n)
      (λ n inside at.
      let parts = and_parts (dies_at plan place t (row_of n)) (nat_lt (n % 64) (lines_of (row_of n))) at in
      and_from (is_live generator place unit (row_of n)) (nat_lt (n % 64) (lines_of (row_of n))) (dying-alive plan limits place below unit (row_of n) (row-born unit n inside) parts.0) parts.1)
      (λ n inside.
      both (is_live generator place unit (row_of n)) (dies_at plan place t (row_of n)) (is_live generator place t (row_of n)) (nat_lt (n % 64) (lines_of (row_of n)))
      (alive-next plan limits place below unit (row_of n) (row-born unit n inside)))
      (λ n inside at.
      let parts = and_parts (changes_at plan place t (row_of n)) (nat_lt (n % 64) (lines_of (row_of n))) at in
      and_from (is_live generator place t (row_of n)) (nat_lt (n % 64) (lines_of (row_of n)))
      (and_parts (is_live generator place t (row_of n)) (change_unit generator place t (row_of n) == t) parts.0).0 parts.1)
      (λ n inside alive rests.
      let parts = and_parts (is_live generator place t (row_of n)) (nat_lt (n % 64) (lines_of (row_of n))) alive in
      text-rested unit n within (row-born unit n inside)
      (and_parts (is_live generator place unit (row_of n)) (not (dies_at plan place t (row_of n))) (alive-next plan limits place below unit (row_of n) (row-born unit n inside) ∙ parts.0)).0 parts.0
      (λ same. true≢false (sym (and_from (changes_at plan place t (row_of n)) (nat_lt (n % 64) (lines_of (row_of n)))
      (and_from (is_live generator place t (row_of n)) (change_unit generator place t (row_of n) == t) parts.0 (eq-eqb (change_unit generator place t (row_of n)) t same)) parts.1) ∙ rests)))
      (subst (λ (n : ℕ). IsMadeByUnits Two generator.delimiter streams (lines_in key (text t) (is_line (is_live generator place t) lines_of) 0 n) end) (sym sum) made))

  -- ---- units in turn

  lines-after : IsDelimiter generator.delimiter → (count from : ℕ) → from + count ≤ last →
      IsMadeByUnits Two generator.delimiter (flat_map (detail_streams plan kept) (range_with_len (from + 1) count)) (live_lines from) (live_lines (from + count))
  lines-after delimits zero from within = let here : from ≡ from + 0 = omega arith in ap live_lines here
  lines-after delimits (suc count) from within =
      let next : (from + 1) + count ≡ from + suc count = omega arith in
      lines-next delimits from (omega (arith, within)) (flat_map (detail_streams plan kept) (range_with_len (from + 1 + 1) count)) (live_lines (from + suc count))
      (subst (λ (unit : ℕ). IsMadeByUnits Two generator.delimiter (flat_map (detail_streams plan kept) (range_with_len (from + 1 + 1) count)) (live_lines (from + 1)) (live_lines unit)) next
      (lines-after delimits count (from + 1) (omega (arith, within))))

  pub units-applied : IsDelimiter generator.delimiter → (from count : ℕ) → from + count ≤ last →
      IsAppliedText Two generator.delimiter (detail_text plan kept from ∷ flat_map (detail_streams plan kept) (range_with_len (from + 1) count)) (detail_text plan kept (from + count))
  units-applied delimits from count within =
      applied-units Two generator.delimiter key (born_count births last * 64) (keys-apart delimits) (detail_text plan kept from) (detail_text plan kept (from + count))
      (text from) (is_line (is_live generator place from) lines_of) 0 (born_count births from * 64) (flat_map (detail_streams plan kept) (range_with_len (from + 1) count)) (live_lines (from + count))
      (omega (arith, born_count-le births from last (omega (arith, within))))
      (λ n low high. keyed-text from n)
      (detail_text-lines from (omega (arith, within))) (detail_text-lines (from + count) within) (lines-after delimits count from within)

  -- no unit, and one
  pub text-applied : IsDelimiter generator.delimiter → (unit : ℕ) → unit ≤ last → IsAppliedText Two generator.delimiter (detail_text plan kept unit ∷ []) (detail_text plan kept unit)
  text-applied delimits unit within =
      let here : unit + 0 ≡ unit = omega arith in
      subst (λ (at : ℕ). IsAppliedText Two generator.delimiter (detail_text plan kept unit ∷ []) (detail_text plan kept at)) here
      (units-applied delimits unit 0 (omega (arith, within)))

  pub unit-applied : IsDelimiter generator.delimiter → (t : ℕ) → 1 ≤ t → t ≤ last →
      IsAppliedText Two generator.delimiter (detail_text plan kept (t - 1) ∷ detail_streams plan kept t) (detail_text plan kept t)
  unit-applied delimits t some within =
      let here : (t - 1) + 1 ≡ t = omega (arith, some) in
      subst (λ (at : ℕ). IsAppliedText Two generator.delimiter (detail_text plan kept (t - 1) ∷ detail_streams plan kept at) (detail_text plan kept at)) here
      (units-applied delimits (t - 1) 1 (omega (arith, some, within)))
