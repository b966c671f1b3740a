-- The texts of a table and of what a unit changes in it, as lines that are known by their keys.
use Rattle.std.proofs.Common.{◌≡◌, ℕ, ◌+◌, ◌-◌, ◌<◌, ◌≤◌, Bool, List, [], ◌∷◌, ◌++◌, decimal, filter, flat_map, length, map, Option, Some, add-one, ap, arith, refl, sym, ◌∙◌}
use Rattle.std.specs.List.{join_with_byte, range_with_len}
use Rattle.std.proofs.lemmas.Fmt.{decimal_injective}
use Rattle.std.proofs.lemmas.List.{append-nil}
use Rattle.std.proofs.lemmas.List.Folds.{flat_map-map}
use Rattle.row_text.specs.Fields.{escaped_text, field_text}
use Rattle.row_text.specs.Lines.{line_text}
use Rattle.row_text.proofs.DigitLemmas.{escaped_text-decimal}
use Rattle.cohort_sizes.specs.Births.{Births, born_count, cohort_size, first_ordinal}
use Rattle.schema_facts.specs.Dictionaries.{Project}
use Rattle.schema_facts.specs.Layout.{no_table}
use Rattle.schema_plan.specs.Limits.{IsInLimits, IsTableInLimits}
use Rattle.schema_facts.proofs.Lists.{map-map}
use Rattle.life_intervals.specs.Generator.{Generator, generator_of, last_unit, table_of}
use Rattle.life_intervals.specs.Intervals.{is_live, row_at}
use Rattle.life_intervals.specs.Keys.{key_of}
use Rattle.life_intervals.proofs.AcceptedLemmas.{AreSound-accepted, place-below}
use Rattle.life_intervals.proofs.KeyLemmas.{OrdersCohorts-generator_of, key_of-one_to_one}
use Rattle.cohort_sizes.proofs.CohortLemmas.{born_count-le, born_count-next}
use Rattle.row_lines.specs.Lines.{cohort_text, deleted_text, field, field_texts, first_lines, inserted_text, key_line_of, line, line_of, table_text, updated_text}
use Rattle.row_lines.proofs.FieldLemmas.{field-key}
use Rattle.row_lines.proofs.LineLemmas.{key_of-by, table_text-living}
use Rattle.stream_apply.specs.KeyedLines.{KeyedLine, keyed, lines_text}
use Rattle.stream_apply.specs.declared.key_fields.KeyFields.TheVariants.{One}
use Rattle.stream_apply.proofs.KeyedLineLemmas.{join_with_byte-by}
use Rattle.stream_apply.proofs.NumberedLineLemmas.{AreKeys, lines_in}
use Rattle.stream_apply.proofs.UnitLemmas.{IsKeyedText}
use Rattle.update_box.specs.Candidates.{dies_at}
use Rattle.update_box.specs.TextLaws.{unit_streams}
use Rattle.update_box.proofs.KeyLineLemmas.{key-small}
use Rattle.update_box.proofs.RangeLemmas.{flat_map-filter_same}
use Rattle.update_box.proofs.StepLemmas.{deleted-ordinals, updated-ordinals}
use Rattle.update_box.proofs.StreamTextLemmas.{deleted_text-ordinals, inserted_text-cohort, updated_text-ordinals}
use Rattle.update_box.proofs.UpdateLemmas.{changes_at}

-- the key of a row of the table at a place, as it is written
abbrev pub key_text : Project → ℕ → ℕ → List ℕ
key_text plan place ordinal = decimal (key_of (generator_of plan) place (last_unit plan) ordinal)

-- its line at a unit, without its line feed
abbrev pub body_text : Project → ℕ → ℕ → ℕ → List ℕ
body_text plan place unit ordinal =
    join_with_byte (generator_of plan).delimiter (field_texts (generator_of plan) unit place (row_at (generator_of plan) place unit ordinal))

-- the lines of the rows that are alive at a unit
abbrev pub live_lines : Project → ℕ → ℕ → List KeyedLine
live_lines plan place unit =
    lines_in (key_text plan place) (body_text plan place unit) (is_live (generator_of plan) place unit) 0 (born_count (table_of plan place).births unit)

-- what a unit changes: the keys of the rows that it deletes, the lines of those that it updates, and those of the cohort that it inserts
abbrev pub stream_lines : Project → ℕ → ℕ → List (List KeyedLine)
stream_lines plan place unit =
    lines_in (key_text plan place) (key_text plan place) (dies_at plan place unit) 0 (first_ordinal (table_of plan place).births unit)
    ∷ lines_in (key_text plan place) (body_text plan place unit) (changes_at plan place unit) 0 (first_ordinal (table_of plan place).births unit)
    ∷ lines_in (key_text plan place) (body_text plan place unit) (is_live (generator_of plan) place unit) (first_ordinal (table_of plan place).births unit)
    (cohort_size (table_of plan place).births unit) ∷ []

-- the lines of numbers are the pieces of those that pass
lines_text-lines_in : (key text : ℕ → List ℕ) (p : ℕ → Bool) (a n : ℕ) →
    lines_text (lines_in key text p a n) ≡ flat_map (λ (j : ℕ). text j ++ 10 ∷ []) (filter p (range_with_len a n))
lines_text-lines_in key text p a n =
    flat_map-map (λ (line : KeyedLine). line.text ++ 10 ∷ []) (λ (j : ℕ). keyed (key j) (text j)) (filter p (range_with_len a n))

module _ (plan : Project) (limits : IsInLimits plan) (place : ℕ) (below : place < length plan.schema.tables) where
  abbrev generator : Generator
  generator = generator_of plan

  abbrev births : Births
  births = (table_of plan place).births

  abbrev key : ℕ → List ℕ
  key = key_text plan place

  abbrev text : ℕ → ℕ → List ℕ
  text = body_text plan place

  -- ---- a table

  -- no two rows have one key
  pub keys-apart : AreKeys key (born_count births (last_unit plan))
  keys-apart i j born_i born_j same =
      key_of-one_to_one generator place (OrdersCohorts-generator_of plan place) (last_unit plan) i j born_i born_j
      (decimal_injective (key_of generator place (last_unit plan) i) (key_of generator place (last_unit plan) j)
      (key-small plan limits (last_unit plan) (omega arith) place below i born_i) (key-small plan limits (last_unit plan) (omega arith) place below j born_j) same)

  -- a line is written from its fields, of which the first is the key
  pub keyed-text : (unit : ℕ) → unit ≤ last_unit plan → (ordinal : ℕ) → ordinal < born_count births unit →
      IsKeyedText One generator.delimiter (key ordinal) (text unit ordinal)
  keyed-text unit within ordinal born =
      let own : IsTableInLimits (last_unit plan) (table_of plan place) = limits.tables place no_table (place-below plan place below) in
      let count : ℕ = length (table_of plan place).columns in
      let held : ℕ → Option (List ℕ) = λ column. field generator unit place (row_at generator place unit ordinal) column in
      let others : List (Option (List ℕ)) = map held (range_with_len 1 (count - 1)) in
      let first : List ℕ = decimal (key_of generator place unit ordinal) in
      let more : count ≡ (count - 1) + 1 = omega (arith, own.some_column) in
      let fields : map held (range_with_len 0 count) ≡ Some first ∷ others =
      ap (λ (n : ℕ). map held (range_with_len 0 n)) (more ∙ add-one (count - 1))
      ∙ ap (λ (o : Option (List ℕ)). o ∷ others) (field-key generator unit place ordinal 0 own.key_first own.key_never_null) in
      record {
        front = first ∷ [];
        others = others;
        count = refl;
        written = ap (join_with_byte generator.delimiter) (sym (map-map (field_text generator.delimiter) held (range_with_len 0 count)))
            ∙ join_with_byte-by (field_text generator.delimiter) generator.delimiter (map held (range_with_len 0 count))
            ∙ ap (line_text generator.delimiter) fields;
        key_written = ap decimal (key_of-by generator (last_unit plan) unit place ordinal within born)
            ∙ sym (escaped_text-decimal generator.delimiter (key_of generator place unit ordinal) (key-small plan limits unit within place below ordinal born))
            ∙ sym (append-nil (escaped_text generator.delimiter first));
      }

  pub table_text-rows : (unit : ℕ) → unit ≤ last_unit plan → table_text generator unit place ≡ lines_text (live_lines plan place unit)
  unfolding line
  table_text-rows unit within =
      table_text-living (last_unit plan) generator unit place (AreSound-accepted plan limits) within
      ∙ sym (lines_text-lines_in key (text unit) (is_live generator place unit) 0 (born_count births unit))

  -- ---- what a unit changes

  deleted_text-lines : (unit : ℕ) → unit ≤ last_unit plan →
      deleted_text plan unit place ≡ lines_text (lines_in key key (dies_at plan place unit) 0 (first_ordinal births unit))
  deleted_text-lines unit within =
      deleted_text-ordinals plan unit place
      ∙ ap (flat_map (key_line_of generator (last_unit plan) place)) (deleted-ordinals plan limits place below unit within)
      ∙ flat_map-filter_same (key_line_of generator (last_unit plan) place) (λ (j : ℕ). key j ++ 10 ∷ []) (dies_at plan place unit) 0 (first_ordinal births unit)
      (λ j low high.
      let born : j < born_count births (last_unit plan) = omega (arith, high, born_count-next births unit, born_count-le births unit (last_unit plan) within) in
      ap (λ (written : List ℕ). written ++ 10 ∷ [])
      (escaped_text-decimal generator.delimiter (key_of generator place (last_unit plan) j) (key-small plan limits (last_unit plan) (omega arith) place below j born)))
      ∙ sym (lines_text-lines_in key key (dies_at plan place unit) 0 (first_ordinal births unit))

  updated_text-lines : (unit : ℕ) → unit ≤ last_unit plan →
      updated_text plan unit place ≡ lines_text (lines_in key (text unit) (changes_at plan place unit) 0 (first_ordinal births unit))
  unfolding line
  updated_text-lines unit within =
      updated_text-ordinals plan limits place below unit within
      ∙ ap (flat_map (line_of generator unit place)) (updated-ordinals plan limits place below unit within)
      ∙ sym (lines_text-lines_in key (text unit) (changes_at plan place unit) 0 (first_ordinal births unit))

  inserted_text-lines : (unit : ℕ) → unit ≤ last_unit plan →
      inserted_text plan unit place ≡ lines_text (lines_in key (text unit) (is_live generator place unit) (first_ordinal births unit) (cohort_size births unit))
  unfolding cohort_text first_lines line
  inserted_text-lines unit within =
      inserted_text-cohort plan limits place below unit within
      ∙ sym (lines_text-lines_in key (text unit) (is_live generator place unit) (first_ordinal births unit) (cohort_size births unit))

  pub unit_streams-lines : (unit : ℕ) → unit ≤ last_unit plan → unit_streams plan place unit ≡ map lines_text (stream_lines plan place unit)
  unit_streams-lines unit within =
      let deletes : deleted_text plan unit place ≡ _ = deleted_text-lines unit within in
      let updates : updated_text plan unit place ≡ _ = updated_text-lines unit within in
      let inserts : inserted_text plan unit place ≡ _ = inserted_text-lines unit within in
      cc
