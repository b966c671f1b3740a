-- The texts of tables and of what units change in them as rows whose first field is a key, written as CSV and read back.
use Rattle.std.proofs.Common.{◌≡◌, ◌≢◌, ◌<◌, ◌≤◌, ◌+◌, ◌-◌, ◌*◌, ◌^◌, ℕ, zero, suc, Bool, true, false, All, List, [], ◌∷◌, ◌++◌, decimal, flat_map, get_or, length, length-append, map, take, Option, None, Some, inl, inr, ap, arith, refl, subst, sym, ◌∙◌}
use Rattle.std.specs.Prelude.{IfSome, ◌==◌, not, ◌||◌, zip}
use Rattle.std.specs.List.{AllZip, list_any, range_with_len}
use Rattle.std.specs.Str.Parse.{AllDigits}
use Rattle.std.proofs.lemmas.Bool.{cases_Bool, eqb-true}
use Rattle.std.proofs.lemmas.Fmt.{decimal_is_IsNumeral}
use Rattle.std.proofs.lemmas.List.{append-nil, length-map}
use Rattle.std.proofs.lemmas.List.Elements.{All-append, All-cons, All-from_get_or, All-head, All-map, All-nil, All-tail}
use Rattle.std.proofs.lemmas.Str.Parse.{tells_digits}
use Rattle.csv_face.specs.Csv.{BeginInAscii, BeginsWithDigit, HasRows, IsCsvOf, csv_text, names_text}
use Rattle.csv_face.specs.Csv as csv
use Rattle.csv_face.specs.Reading.{AreGood, IsNamedReadAs, IsReadAs, is_bad_field, is_bad_record, row_field}
use Rattle.csv_face.proofs.BackLemmas.{csv-one, csv_text-read}
use Rattle.csv_face.proofs.NamedLemmas.{named-read}
use Rattle.cohort_sizes.specs.Births.{born_count, cohort_size, first_ordinal}
use Rattle.cohort_sizes.proofs.CohortLemmas.{born_count-le, born_count-next}
use Rattle.life_intervals.specs.Generator.{generator_of, last_unit, table_of}
use Rattle.life_intervals.specs.Intervals.{is_live}
use Rattle.life_intervals.specs.Keys.{key_of}
use Rattle.row_lines.specs.Lines.{deleted_text, inserted_text, table_text, updated_text}
use Rattle.row_text.specs.Fields.{IsDelimiter, escaped_text, field_text}
use Rattle.row_text.specs.Lines.{line_text}
use Rattle.schema_facts.specs.Dictionaries.{Project}
use Rattle.schema_facts.specs.Layout.{layout_of}
use Rattle.schema_plan.specs.Limits.{IsInLimits}
use Rattle.schema_plan.specs.Rules.{column_names}
use Rattle.stream_apply.specs.KeyedLines.{lines_text}
use Rattle.stream_apply.specs.Streams.{text_fields}
use Rattle.stream_apply.proofs.NumberedLineLemmas.{lines_in}
use Rattle.update_box.specs.Candidates.{dies_at}
use Rattle.update_box.specs.Packages.{chosen_places}
use Rattle.update_box.specs.TextLaws.{unit_streams}
use Rattle.update_box.proofs.KeyLineLemmas.{key-small}
use Rattle.update_box.proofs.KeyedTextLemmas.{body_text, key_text, keyed-text, table_text-rows, unit_streams-lines}
use Rattle.update_box.proofs.UpdateLemmas.{changes_at}
use Rattle.request_words.specs.declared.usage.Format.{Format}
use Rattle.request_words.specs.declared.usage.Format.TheVariants.{Copy, Csv, Sql}
use Rattle.request_words.specs.declared.usage.Header.{Header}
use Rattle.request_words.specs.declared.usage.Header.TheVariants as header
use Rattle.request_words.specs.declared.usage.Request.{Request}
use Rattle.run_jobs.specs.Formats.{AreCsvOf, AreRowsOf, IsOfFields, IsOfNames, each_after, heading_of}
use Rattle.replay_files.specs.Replay.{AreColumns, AreReplayed, IsCsvOfTables, IsReplayedText, format_by, input_columns, inputs_at, inputs_by}
use Rattle.run_jobs.specs.InputFiles.{AreReadAs, IsReadIn, change_names, names_in}
use Rattle.replay_files.specs.declared.replay.Replay.{Replay}
use Rattle.replay_files.specs.declared.replay.Way.{Way}
use Rattle.replay_files.specs.declared.replay.Way.TheVariants as way
use Rattle.replay_files.specs.modes.Apply.{columns_by, table_inputs}
use Rattle.replay_files.proofs.ChunkLemmas.{chunk}
use Rattle.run_jobs.proofs.ColumnLemmas.{length-column_names, one_name}
use Rattle.run_jobs.proofs.CsvLemmas.{appended, dropped, taken}
use Rattle.run_jobs.proofs.RowLemmas.{applied-rows, few_columns, keys-copy, lines-copy, some_column}
use Rattle.stream_apply.specs.declared.key_fields.KeyFields.TheVariants.{One}

-- a text of rows with so many fields that begins with a key
abbrev pub IsKeyedText : ℕ → ℕ → List ℕ → Type 0
IsKeyedText delimiter count text = IsOfFields delimiter count text × BeginsWithDigit text

-- the same of a text whose rows have a field for each of some names
abbrev pub IsKeyedOf : ℕ → List (List ℕ) → List ℕ → Type 0
IsKeyedOf delimiter names text = IsKeyedText delimiter (length names) text

-- ---- texts begin with digits

-- bytes that begin with a digit
data StartsWithDigit (text : List ℕ) : Type 0 where
  starts : (byte : ℕ) (rest : List ℕ) → text ≡ byte ∷ rest → 48 ≤ byte → byte ≤ 57 → StartsWithDigit text

digits-start : (bytes tail : List ℕ) → 0 < length bytes → AllDigits 10 bytes → StartsWithDigit (bytes ++ tail)
digits-start [] tail some digits = absurd (omega (arith, some))
digits-start (byte ∷ bytes) tail some digits =
    let parts = tells_digits.parts byte bytes digits in
    starts byte (bytes ++ tail) refl (omega (arith, parts.0)) (omega (arith, parts.0))

number-start : (number : ℕ) (tail : List ℕ) → number < 2 ^ 64 → StartsWithDigit (decimal number ++ tail)
number-start number tail small =
    let numeral = (decimal_is_IsNumeral number small).0 in
    digits-start (decimal number) tail numeral.0 numeral.1

-- lines of which each does
lines-begin : (key text : ℕ → List ℕ) (p : ℕ → Bool) (a n : ℕ) → ((j : ℕ) → a ≤ j → j < a + n → StartsWithDigit (text j)) → BeginsWithDigit (lines_text (lines_in key text p a n))
lines-begin key text p a zero each = tt
lines-begin key text p a (suc n) each = elim (cases_Bool (p a)) [
  | inl passes ↦ rw passes (elim (each a (omega arith) (omega arith)) [
    | starts byte rest is from to ↦
        subst (λ (t : List ℕ). BeginsWithDigit ((t ++ 10 ∷ []) ++ lines_text (lines_in key text p (a + 1) n))) (sym is) (from, to)
  ])
  | inr fails ↦ rw fails (lines-begin key text p (a + 1) n (λ j low high. each j (omega (arith, low)) (omega (arith, high))))
]

-- a line begins with its first field
line-begins : (delimiter : ℕ) (front : List (List ℕ)) (others : List (Option (List ℕ))) → length front ≡ 1 →
    (more : List ℕ) × (line_text delimiter (text_fields front ++ others) ≡ line_text delimiter (text_fields front) ++ more)
line-begins delimiter [] others one = absurd (omega (arith, one))
line-begins delimiter (first ∷ []) others one =
    let more : List ℕ = flat_map (λ (field : Option (List ℕ)). (delimiter ∷ []) ++ field_text delimiter field) others in
    (more, ap (λ (text : List ℕ). text ++ more) (sym (append-nil (escaped_text delimiter first))))
line-begins delimiter (first ∷ second ∷ front) others one = absurd (omega (arith, one))

module _ (plan : Project) (limits : IsInLimits plan) (place : ℕ) (below : place < length plan.schema.tables) where
  -- a field for each name of a column
  of_names : (text : List ℕ) → IsKeyedText (layout_of plan).delimiter (length (table_of plan place).columns) text → IsKeyedOf (layout_of plan).delimiter (column_names plan.schema place) text
  of_names text keyed = subst (λ (count : ℕ). IsKeyedText (layout_of plan).delimiter count text) (sym (length-column_names plan place below)) keyed

  of_key : (text : List ℕ) → IsKeyedText (layout_of plan).delimiter 1 text → IsKeyedOf (layout_of plan).delimiter (take 1 (column_names plan.schema place)) text
  of_key text keyed =
      let some : 0 < length (column_names plan.schema place) = omega (arith, length-column_names plan place below, some_column plan limits place below) in
      subst (λ (count : ℕ). IsKeyedText (layout_of plan).delimiter count text) (sym (one_name (column_names plan.schema place) some)) keyed

  by_last : (unit ordinal : ℕ) → unit ≤ last_unit plan → ordinal < born_count (table_of plan place).births unit → ordinal < born_count (table_of plan place).births (last_unit plan)
  by_last unit ordinal within born = omega (arith, born, born_count-le (table_of plan place).births unit (last_unit plan) within)

  key-starts : (ordinal : ℕ) → ordinal < born_count (table_of plan place).births (last_unit plan) → StartsWithDigit (key_text plan place ordinal)
  key-starts ordinal born =
      let small = key-small plan limits (last_unit plan) (omega arith) place below ordinal born in
      let numeral = (decimal_is_IsNumeral (key_of (generator_of plan) place (last_unit plan) ordinal) small).0 in
      whole (key_text plan place ordinal) numeral.0 numeral.1
    where
      whole : (bytes : List ℕ) → 0 < length bytes → AllDigits 10 bytes → StartsWithDigit bytes
      whole [] some digits = absurd (omega (arith, some))
      whole (byte ∷ bytes) some digits =
          let parts = tells_digits.parts byte bytes digits in
          starts byte bytes refl (omega (arith, parts.0)) (omega (arith, parts.0))

  body-starts : (unit ordinal : ℕ) → unit ≤ last_unit plan → ordinal < born_count (table_of plan place).births unit → StartsWithDigit (body_text plan place unit ordinal)
  body-starts unit ordinal within born =
      let keyed = keyed-text plan limits place below unit within ordinal born in
      let small = key-small plan limits (last_unit plan) (omega arith) place below ordinal (by_last unit ordinal within born) in
      let cut = line-begins (generator_of plan).delimiter keyed.front keyed.others keyed.count in
      subst StartsWithDigit (sym (keyed.written ∙ cut.1 ∙ ap (λ (first : List ℕ). first ++ cut.0) (sym keyed.key_written)))
      (number-start (key_of (generator_of plan) place (last_unit plan) ordinal) cut.0 small)

  table-keyed : (unit : ℕ) → unit ≤ last_unit plan → IsKeyedText (layout_of plan).delimiter (length (table_of plan place).columns) (table_text (generator_of plan) unit place)
  unfolding table_text
  table-keyed unit within = (
    lines-copy (generator_of plan) unit place _ (some_column plan limits place below),
    subst BeginsWithDigit (sym (table_text-rows plan limits place below unit within))
        (lines-begin (key_text plan place) (body_text plan place unit) (is_live (generator_of plan) place unit) 0 (born_count (table_of plan place).births unit)
        (λ j low high. body-starts unit j within (omega (arith, high)))),
  )

  unit-keyed : (unit : ℕ) → unit ≤ last_unit plan →
      AllZip (IsKeyedOf (layout_of plan).delimiter) (change_names (column_names plan.schema place)) (unit_streams plan place unit)
  unit-keyed unit within =
      let births = (table_of plan place).births in
      let same = unit_streams-lines plan limits place below unit within in
      let deletes : deleted_text plan unit place ≡ lines_text (lines_in (key_text plan place) (key_text plan place) (dies_at plan place unit) 0 (first_ordinal births unit)) = cc same in
      let updates : updated_text plan unit place ≡ lines_text (lines_in (key_text plan place) (body_text plan place unit) (changes_at plan place unit) 0 (first_ordinal births unit)) = cc same in
      let inserts : inserted_text plan unit place
      ≡ lines_text (lines_in (key_text plan place) (body_text plan place unit) (is_live (generator_of plan) place unit) (first_ordinal births unit) (cohort_size births unit)) = cc same in
      let next = born_count-next births unit in
      let some = some_column plan limits place below in (
        of_key (deleted_text plan unit place) (
          keys-copy (generator_of plan) (last_unit plan) place _,
          subst BeginsWithDigit (sym deletes)
              (lines-begin (key_text plan place) (key_text plan place) (dies_at plan place unit) 0 (first_ordinal births unit)
              (λ j low high. key-starts j (by_last unit j within (omega (arith, high, next))))),
        ),
        (
          of_names (updated_text plan unit place) (
            lines-copy (generator_of plan) unit place _ some,
            subst BeginsWithDigit (sym updates)
                (lines-begin (key_text plan place) (body_text plan place unit) (changes_at plan place unit) 0 (first_ordinal births unit)
                (λ j low high. body-starts unit j within (omega (arith, high, next)))),
          ),
          (
            of_names (inserted_text plan unit place) (
              lines-copy (generator_of plan) unit place _ some,
              subst BeginsWithDigit (sym inserts)
                  (lines-begin (key_text plan place) (body_text plan place unit) (is_live (generator_of plan) place unit) (first_ordinal births unit) (cohort_size births unit)
                  (λ j low high. body-starts unit j within (omega (arith, high, next)))),
            ),
            tt,
          ),
        ),
      )

  units-keyed : (first from count : ℕ) → from + count ≤ last_unit plan + 1 →
      AllZip (IsKeyedOf (layout_of plan).delimiter) (flat_map (λ (unit : ℕ). change_names (column_names plan.schema place)) (range_with_len first count))
      (flat_map (unit_streams plan place) (range_with_len from count))
  units-keyed first from zero within = tt
  units-keyed first from (suc count) within =
      appended (IsKeyedOf (layout_of plan).delimiter) (change_names (column_names plan.schema place)) (unit_streams plan place from) _ _
      (unit-keyed from (omega (arith, within))) (units-keyed (first + 1) (from + 1) count (omega (arith, within)))

  pub own-keyed : (from count : ℕ) → from + count ≤ last_unit plan →
      AllZip (IsKeyedOf (layout_of plan).delimiter) (names_in count (column_names plan.schema place)) (table_inputs plan from count place)
  own-keyed from count within = (of_names (table_text (generator_of plan) from place) (table-keyed from (omega (arith, within))), units-keyed 0 (from + 1) count (omega (arith, within)))

-- ---- of tables

pub chosen-within : (plan : Project) (table : Option ℕ) → IfSome table (λ place. place < length plan.schema.tables) → All (λ place. place < length plan.schema.tables) (chosen_places plan table)
chosen-within plan None choice = range-within (length plan.schema.tables) 0 (length plan.schema.tables) (omega arith)
  where
    range-within : (all first count : ℕ) → first + count ≤ all → All (λ place. place < all) (range_with_len first count)
    range-within all first zero within = All-nil (λ (place : ℕ). place < all)
    range-within all first (suc count) within =
        All-cons (λ (place : ℕ). place < all) first (range_with_len (first + 1) count) (omega (arith, within)) (range-within all (first + 1) count (omega (arith, within)))
chosen-within plan (Some place) choice = All-cons (λ (p : ℕ). p < length plan.schema.tables) place [] choice (All-nil (λ (p : ℕ). p < length plan.schema.tables))

-- the names of the columns of some tables
abbrev pub columns_at : Project → List ℕ → List (List (List ℕ))
columns_at plan places = map (column_names plan.schema) places

-- they are told where a format wants them in which rows are read
pub format_is : (format : Format) (plan : Project) (places : List ℕ) → format ≢ Sql → format_by (columns_by format plan places) ≡ format
format_is Copy plan places read = refl
format_is Csv plan places read = refl
format_is Sql plan places read = absurd (read refl)

-- and no plan changes where
pub format_alike : (format : Format) (plan other : Project) (places : List ℕ) → format_by (columns_by format plan places) ≡ format_by (columns_by format other places)
format_alike Copy plan other places = refl
format_alike Csv plan other places = refl
format_alike Sql plan other places = refl

tables-keyed : (plan : Project) → IsInLimits plan → (r : Request) → r.from ≤ r.to → r.to ≤ last_unit plan → (places : List ℕ) → All (λ place. place < length plan.schema.tables) places →
    AllZip (IsKeyedOf (layout_of plan).delimiter) (input_columns r (columns_at plan places)) (flat_map (table_inputs plan r.from (r.to - r.from)) places)
tables-keyed plan limits r order within [] all = tt
tables-keyed plan limits r order within (place ∷ places) all =
    appended (IsKeyedOf (layout_of plan).delimiter) (names_in (r.to - r.from) (column_names plan.schema place)) (table_inputs plan r.from (r.to - r.from) place) _ _
    (own-keyed plan limits place (All-head (λ (p : ℕ). p < length plan.schema.tables) place places all) r.from (r.to - r.from) (omega (arith, order, within)))
    (tables-keyed plan limits r order within places (All-tail (λ (p : ℕ). p < length plan.schema.tables) place places all))

pub inputs-keyed : (plan : Project) → IsInLimits plan → (r : Request) (table : Option ℕ) → r.from ≤ r.to → r.to ≤ last_unit plan → IfSome table (λ place. place < length plan.schema.tables) →
    AllZip (IsKeyedOf (layout_of plan).delimiter) (input_columns r (columns_at plan (chosen_places plan table))) (flat_map (table_inputs plan r.from (r.to - r.from)) (chosen_places plan table))
inputs-keyed plan limits r table order within choice = tables-keyed plan limits r order within (chosen_places plan table) (chosen-within plan table choice)

-- each table has a column at least, and few
pub columns-are : (plan : Project) → IsInLimits plan → (table : Option ℕ) → IfSome table (λ place. place < length plan.schema.tables) →
    All AreColumns (columns_at plan (chosen_places plan table))
columns-are plan limits table choice =
    All-map AreColumns (column_names plan.schema) (chosen_places plan table)
    (λ k d inside.
    let below = chosen-within plan table choice k d inside in
    let long = length-column_names plan _ below in
    record { some = omega (arith, long, some_column plan limits _ below); few = omega (arith, long, few_columns plan limits _ below) })

pub later-rows : (plan : Project) → IsInLimits plan → (unit : ℕ) (table : Option ℕ) → IfSome table (λ place. place < length plan.schema.tables) →
    All (λ (text : List ℕ). HasRows (layout_of plan).delimiter text) (map (table_text (generator_of plan) unit) (chosen_places plan table))
unfolding table_text
later-rows plan limits unit table choice =
    All-map (λ (text : List ℕ). HasRows (layout_of plan).delimiter text) (table_text (generator_of plan) unit) (chosen_places plan table)
    (λ k d inside.
    let below = chosen-within plan table choice k d inside in
    let of = lines-copy (generator_of plan) unit _ _ (some_column plan limits _ below) in
    record { fields = length (table_of plan _).columns; rows = of.0; copy = of.1 })

-- ---- as CSV, and back

pub some-csvs : (delimiter : ℕ) (texts : List (List ℕ)) → All (λ (text : List ℕ). HasRows delimiter text) texts → (csvs : List (List ℕ)) × AreCsvOf delimiter texts csvs
some-csvs delimiter [] all = ([], tt)
some-csvs delimiter (text ∷ texts) all =
    let own : HasRows delimiter text = All-head (λ (t : List ℕ). HasRows delimiter t) text texts all in
    let rest = some-csvs delimiter texts (All-tail (λ (t : List ℕ). HasRows delimiter t) text texts all) in
    (csv_text own.rows ∷ rest.0, (record { fields = own.fields; rows = own.rows; copy = own.copy; is = refl }, rest.1))

read_back : (delimiter count : ℕ) (text bytes : List ℕ) → IsDelimiter delimiter → IsKeyedText delimiter count text → IsCsvOf delimiter text bytes → IsReadAs delimiter count bytes text
read_back delimiter count text bytes delimits keyed is =
    let same : bytes ≡ csv_text keyed.0.0 =
    csv-one delimiter text bytes (csv_text keyed.0.0) delimits is (record { fields = count; rows = keyed.0.0; copy = keyed.0.1; is = refl }) in
    subst (λ (b : List ℕ). IsReadAs delimiter count b text) (sym same) (csv_text-read delimiter delimits count keyed.0.0 text keyed.0.1 keyed.1)

named_back : (delimiter : ℕ) (names : List (List ℕ)) (text bytes : List ℕ) → IsDelimiter delimiter → BeginInAscii names → IsKeyedOf delimiter names text → IsCsvOf delimiter text bytes →
    IsNamedReadAs delimiter names (names_text names ++ bytes) text
named_back delimiter names text bytes delimits ascii keyed is =
    let same : bytes ≡ csv_text keyed.0.0 =
    csv-one delimiter text bytes (csv_text keyed.0.0) delimits is (record { fields = length names; rows = keyed.0.0; copy = keyed.0.1; is = refl }) in
    subst (λ (b : List ℕ). IsNamedReadAs delimiter names (names_text names ++ b) text) (sym same) (named-read delimiter names keyed.0.0 text ascii keyed.0.1)

read_after : (asked : Header) (delimiter : ℕ) (names : List (List ℕ)) (text bytes : List ℕ) → IsDelimiter delimiter → BeginInAscii names → IsKeyedOf delimiter names text → IsCsvOf delimiter text bytes →
    IsReadIn asked delimiter (names, heading_of asked names ++ bytes) text
read_after header.None delimiter names text bytes delimits ascii keyed is = read_back delimiter (length names) text bytes delimits keyed is
read_after header.Names delimiter names text bytes delimits ascii keyed is = named_back delimiter names text bytes delimits ascii keyed is

pub texts-read : (asked : Header) (delimiter : ℕ) → IsDelimiter delimiter → (columns : List (List (List ℕ))) (texts rows : List (List ℕ)) → All BeginInAscii columns →
    AllZip (IsKeyedOf delimiter) columns texts → AreCsvOf delimiter texts rows → AreReadAs asked delimiter (zip columns (each_after (map (heading_of asked) columns) rows)) texts
texts-read asked delimiter delimits [] [] [] ascii of are = tt
texts-read asked delimiter delimits [] [] (row ∷ rows) ascii of are = absurd are
texts-read asked delimiter delimits [] (text ∷ texts) rows ascii of are = absurd of
texts-read asked delimiter delimits (names ∷ columns) [] rows ascii of are = absurd of
texts-read asked delimiter delimits (names ∷ columns) (text ∷ texts) [] ascii of are = absurd are
texts-read asked delimiter delimits (names ∷ columns) (text ∷ texts) (row ∷ rows) ascii of are = (
  read_after asked delimiter names text row delimits (All-head BeginInAscii names columns ascii) of.0 are.0,
  texts-read asked delimiter delimits columns texts rows (All-tail BeginInAscii names columns ascii) of.1 are.1,
)

-- ---- the rows of what is read and made

good-long : (count : ℕ) (fields : List (List ℕ)) → is_bad_record count fields ≡ false → length fields ≡ count
good-long count fields good = go (length fields == count) refl good
  where
    go : (same : Bool) → length fields == count ≡ same → (not same || list_any is_bad_field fields) ≡ false → length fields ≡ count
    go true is good = eqb-true (length fields) count is
    go false is good = cc good

records-alike : (count : ℕ) (records : List (List (List ℕ))) → AreGood count records → All (λ (row : csv.Row). length row ≡ count) (map (map row_field) records)
records-alike count [] good = All-nil (λ (row : csv.Row). length row ≡ count)
records-alike count (fields ∷ records) good =
    let Good : List (List ℕ) → Type 0 = λ f. is_bad_record count f ≡ false in
    All-cons (λ (row : csv.Row). length row ≡ count) (map row_field fields) (map (map row_field) records)
    (length-map fields row_field ∙ good-long count fields (All-head Good fields records good)) (records-alike count records (All-tail Good fields records good))

read-of_names : (asked : Header) (delimiter : ℕ) (names : List (List ℕ)) (input copy : List ℕ) → AreColumns names → IsReadIn asked delimiter (names, input) copy → IsOfNames delimiter names copy
read-of_names header.None delimiter names input copy columns read =
    (map (map row_field) read.records, record { some = columns.some; alike = records-alike (length names) read.records read.good; written = read.is })
read-of_names header.Names delimiter names input copy columns read =
    (map (map row_field) read.records, record { some = columns.some; alike = records-alike (length names) read.records read.good; written = read.is })

pub read-rows : (asked : Header) (delimiter : ℕ) (columns : List (List (List ℕ))) (inputs copies : List (List ℕ)) → length columns ≡ length inputs → All AreColumns columns →
    AreReadAs asked delimiter (zip columns inputs) copies → AreRowsOf delimiter columns copies
read-rows asked delimiter [] [] [] alike some are = tt
read-rows asked delimiter [] [] (copy ∷ copies) alike some are = absurd are
read-rows asked delimiter [] (input ∷ inputs) copies alike some are = absurd (omega (arith, alike))
read-rows asked delimiter (names ∷ columns) [] copies alike some are = absurd (omega (arith, alike))
read-rows asked delimiter (names ∷ columns) (input ∷ inputs) [] alike some are = absurd are
read-rows asked delimiter (names ∷ columns) (input ∷ inputs) (copy ∷ copies) alike some are = (
  read-of_names asked delimiter names input copy (All-head AreColumns names columns some) are.0,
  read-rows asked delimiter columns inputs copies (omega (arith, alike)) (All-tail AreColumns names columns some) are.1,
)

length-changes : (names : List (List ℕ)) (first units : ℕ) → length (flat_map (λ (unit : ℕ). change_names names) (range_with_len first units)) ≡ 3 * units
length-changes names first zero = refl
length-changes names first (suc units) = omega (arith, length-changes names (first + 1) units)

length-names_in : (units : ℕ) (names : List (List ℕ)) → length (names_in units names) ≡ 1 + 3 * units
length-names_in units names = omega (arith, length-changes names 0 units)

pub length-input_columns : (r : Request) (tables : List (List (List ℕ))) → length (input_columns r tables) ≡ length tables * (1 + 3 * (r.to - r.from))
length-input_columns r [] = omega arith
length-input_columns r (names ∷ tables) =
    let each : ℕ = 1 + 3 * (r.to - r.from) in
    let rest : List (List (List ℕ)) = input_columns r tables in
    length-append (names_in (r.to - r.from) names) rest
    ∙ ap (λ (n : ℕ). n + length rest) (length-names_in (r.to - r.from) names)
    ∙ ap (λ (n : ℕ). each + n) (length-input_columns r tables)
    ∙ one_more each (length tables)
  where
    one_more : (each count : ℕ) → each + count * each ≡ suc count * each
    one_more each count = grind (arith)

-- what holds of the names of each table holds of those of each input
module _ (P : List (List ℕ) → Type 0) (of_key : (names : List (List ℕ)) → P names → P (take 1 names)) where
  changes-have : (names : List (List ℕ)) (first units : ℕ) → P names → All P (flat_map (λ (unit : ℕ). change_names names) (range_with_len first units))
  changes-have names first zero has = All-nil P
  changes-have names first (suc units) has =
      let rest = flat_map (λ (unit : ℕ). change_names names) (range_with_len (first + 1) units) in
      All-cons P (take 1 names) (names ∷ names ∷ rest) (of_key names has)
      (All-cons P names (names ∷ rest) has (All-cons P names rest has (changes-have names (first + 1) units has)))

  pub input_columns-have : (r : Request) (tables : List (List (List ℕ))) → All P tables → All P (input_columns r tables)
  input_columns-have r [] all = All-nil P
  input_columns-have r (names ∷ tables) all =
      let own : P names = All-head P names tables all in
      let units : ℕ = r.to - r.from in
      All-append P (names_in units names) (input_columns r tables)
      (All-cons P names (flat_map (λ (unit : ℕ). change_names names) (range_with_len 0 units)) own (changes-have names 0 units own))
      (input_columns-have r tables (All-tail P names tables all))

key-columns : (names : List (List ℕ)) → AreColumns names → AreColumns (take 1 names)
key-columns [] columns = columns
key-columns (name ∷ names) columns = record { some = omega arith; few = omega arith }

pub input_columns-are : (r : Request) (tables : List (List (List ℕ))) → All AreColumns tables → All AreColumns (input_columns r tables)
input_columns-are = input_columns-have AreColumns key-columns

key-ascii : (names : List (List ℕ)) → BeginInAscii names → BeginInAscii (take 1 names)
key-ascii [] ascii = absurd ascii
key-ascii ([] ∷ names) ascii = absurd ascii
key-ascii ((byte ∷ bytes) ∷ names) ascii = ascii

pub input_columns-ascii : (r : Request) (tables : List (List (List ℕ))) → All BeginInAscii tables → All BeginInAscii (input_columns r tables)
input_columns-ascii = input_columns-have BeginInAscii key-ascii

-- each text that inputs with rows make has rows
pub made-rows : (delimiter : ℕ) (r : Request) (w : Way) (tables : List (List (List ℕ))) (inputs texts : List (List ℕ)) → IsDelimiter delimiter → w ≡ way.Apply One → All AreColumns tables →
    AreRowsOf delimiter (input_columns r tables) inputs → AreReplayed w delimiter (inputs_by w r.from r.to) inputs texts → length texts ≡ length tables →
    All (λ (text : List ℕ). HasRows delimiter text) texts
made-rows delimiter r w tables inputs texts delimits applies columns are replayed many =
    let units : ℕ = r.to - r.from in
    let each : ℕ = 1 + 3 * units in
    All-from_get_or (λ (text : List ℕ). HasRows delimiter text) texts [] (λ p inside.
    let below : p < length tables = omega (arith, inside, many) in
    let own : AllZip (IsOfNames delimiter) (names_in units (get_or tables p [])) (inputs_at each inputs p) =
    subst (λ (names : List (List (List ℕ))). AllZip (IsOfNames delimiter) names (inputs_at each inputs p)) (chunk (names_in units) each tables p [] (length-names_in units) below)
    (taken (IsOfNames delimiter) each _ _ (dropped (IsOfNames delimiter) (p * each) _ _ are)) in
    let applied : IsReplayedText (way.Apply One) delimiter (inputs_at each inputs p) (get_or texts p []) =
    subst (λ (v : Way). IsReplayedText v delimiter (inputs_at (inputs_by v r.from r.to) inputs p) (get_or texts p [])) applies (replayed.replayed p inside) in
    applied-rows delimiter (get_or tables p []) units delimits (columns p [] below).some (inputs_at each inputs p) (get_or texts p []) own applied)

-- so has each where they are written as CSV
pub made-rows_by : (delimiter : ℕ) (r : Request) (replay : Replay) (csv : Option (List (List (List ℕ)))) (inputs texts : List (List ℕ)) → IsDelimiter delimiter →
    IfSome csv (IsCsvOfTables replay.way (length replay.names)) → IfSome csv (λ tables. AreRowsOf delimiter (input_columns r tables) inputs) →
    AreReplayed replay.way delimiter (inputs_by replay.way r.from r.to) inputs texts → length texts ≡ length replay.names → IfSome csv (λ tables. All (λ (text : List ℕ). HasRows delimiter text) texts)
made-rows_by delimiter r replay None inputs texts delimits of are replayed many = tt
made-rows_by delimiter r replay (Some tables) inputs texts delimits of are replayed many =
    made-rows delimiter r replay.way tables inputs texts delimits of.applies of.columns are replayed (many ∙ sym of.alike)
