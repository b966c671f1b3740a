-- What is written as CSV is read back.
use Rattle.std.proofs.Common.{◌≡◌, ◌≤◌, ◌<◌, ℕ, ◌==◌, ◌+◌, All, List, [], ◌∷◌, ◌++◌, Option, None, Some, false, length, map, refl, sym, ap, subst, ◌∙◌, inl, inr, arith}
use Rattle.std.proofs.lemmas.Bool.{cases_Bool, eq-eqb, ne_eqb}
use Rattle.std.proofs.lemmas.List.{length-map}
use Rattle.std.proofs.lemmas.List.Elements.{All-cons, All-head, All-nil, All-tail}
use Rattle.std.specs.List.{list_any}
use Rattle.std.specs.Prelude.{flat_map}
use Rattle.csv.specs.Reading.{AreRecords, default_config, strip_bom}
use Rattle.csv.specs.Writing.{default_writer, needs_byte, read_back}
use Rattle.csv.specs.declared.parser.State.TheVariants as st
use Rattle.row_text.specs.Fields.{IsDelimiter, escaped_text, field_text}
use Rattle.row_text.specs.Lines.{line_text}
use Rattle.row_text.proofs.EscapeLemmas.{itself, escape, form}
use Rattle.csv_face.specs.Csv.{BeginsWithDigit, IsCopyText, IsCsvOf, Row, csv_field, csv_text, guarded, record_text, records_text, rows_text}
use Rattle.csv_face.specs.Reading.{AreGood, HasBadAfter, IsReadAfter, IsReadAs, is_bad_record, row_field}
use Rattle.csv_face.specs.Scan.{records_behind}
use Rattle.csv_face.proofs.FieldLemmas.{has_bad_field-csv, rows-csv}
use Rattle.csv_face.proofs.RecordLemmas.{are_records-after, are_records-records_text, first_bad-after, reached-good_after}
use Rattle.csv_face.proofs.ScanLemmas.{records_behind-rows_text}

-- bytes that begin with no byte order mark
strip-head : (byte : ℕ) (rest : List ℕ) → (byte == 239) ≡ false → strip_bom (byte ∷ rest) ≡ byte ∷ rest
unfolding strip_bom
strip-head byte [] no_mark = refl
strip-head byte (b ∷ []) no_mark = refl
strip-head byte (b ∷ c ∷ rest) no_mark = rw no_mark refl

-- a record whose first field begins with another byte
pub strip-record : (byte : ℕ) (bytes : List ℕ) (others : List (List ℕ)) (tail : List ℕ) → (byte == 239) ≡ false
    → strip_bom (record_text ((byte ∷ bytes) ∷ others) ++ tail) ≡ record_text ((byte ∷ bytes) ∷ others) ++ tail
strip-record byte bytes others tail no_mark = elim (cases_Bool (list_any (needs_byte default_writer) (byte ∷ bytes))) [
  | inl needs ↦ rw needs (strip-head 34 _ refl)
  | inr plain ↦ rw plain (strip-head byte _ no_mark)
]

-- a field that begins with a digit
data DigitField (field : Option (List ℕ)) : Type 0 where
  digit_field : (byte : ℕ) (bytes : List ℕ) → field ≡ Some (byte ∷ bytes) → 48 ≤ byte → byte ≤ 57 → DigitField field

-- a line that begins with a digit begins with such a field
digit-first : (delimiter : ℕ) → IsDelimiter delimiter → (field : Option (List ℕ)) (fields : Row) (tail : List ℕ)
    → BeginsWithDigit ((line_text delimiter (field ∷ fields) ++ 10 ∷ []) ++ tail) → DigitField field
digit-first delimiter delimits None fields tail begins = absurd (omega (arith, begins.1))
digit-first delimiter delimits (Some []) [] tail begins = absurd (omega (arith, begins.0))
digit-first delimiter (inl tab) (Some []) (other ∷ fields) tail begins = absurd (omega (arith, begins.0, tab))
digit-first delimiter (inr bar) (Some []) (other ∷ fields) tail begins = absurd (omega (arith, begins.1, bar))
digit-first delimiter delimits (Some (byte ∷ bytes)) fields tail begins =
    let behind : List ℕ → List ℕ =
    λ t. (((t ++ escaped_text delimiter bytes) ++ flat_map (λ (f : Option (List ℕ)). (delimiter ∷ []) ++ field_text delimiter f) fields) ++ 10 ∷ []) ++ tail in
    elim (form delimiter byte) [
      | itself written _ _ _ _ _ ↦
          let here : BeginsWithDigit (behind (byte ∷ [])) = subst (λ (t : List ℕ). BeginsWithDigit (behind t)) written begins in
          digit_field byte bytes refl here.0 here.1
      | escape letter written _ _ _ _ _ ↦
          let here : BeginsWithDigit (behind (92 ∷ letter ∷ [])) = subst (λ (t : List ℕ). BeginsWithDigit (behind t)) written begins in
          absurd (omega (arith, here.1))
    ]

guarded-digit : (byte : ℕ) (bytes : List ℕ) → byte ≤ 57 → guarded (byte ∷ bytes) ≡ byte ∷ bytes
guarded-digit byte bytes below = rw (ne_eqb byte 92 (omega (arith, below))) refl

strip-csv : (delimiter : ℕ) → IsDelimiter delimiter → (count : ℕ) → 0 < count → (rows : List Row) → All (λ (row : Row). length row ≡ count) rows
    → BeginsWithDigit (rows_text delimiter rows) → strip_bom (csv_text rows) ≡ csv_text rows
unfolding strip_bom
strip-csv delimiter delimits count some [] alike begins = refl
strip-csv delimiter delimits count some ([] ∷ rows) alike begins =
    let none : 0 ≡ count = All-head (λ (row : Row). length row ≡ count) [] rows alike in
    absurd (omega (arith, none, some))
strip-csv delimiter delimits count some ((field ∷ fields) ∷ rows) alike begins =
    elim (digit-first delimiter delimits field fields (rows_text delimiter rows) begins) [
      | digit_field byte bytes is above below ↦
          let no_mark : (byte == 239) ≡ false = ne_eqb byte 239 (omega (arith, below)) in
          let first : csv_field field ≡ byte ∷ bytes = ap csv_field is ∙ guarded-digit byte bytes below in
          subst (λ (f : List ℕ). strip_bom (record_text (f ∷ map csv_field fields) ++ csv_text rows) ≡ record_text (f ∷ map csv_field fields) ++ csv_text rows)
          (sym first) (strip-record byte bytes (map csv_field fields) (csv_text rows) no_mark)
    ]

-- no record is one of no field
pub read_back-same : (count : ℕ) → 0 < count → (rows : List Row) → All (λ (row : Row). length row ≡ count) rows
    → map read_back (map (map csv_field) rows) ≡ map (map csv_field) rows
read_back-same count some [] alike = refl
read_back-same count some ([] ∷ rows) alike =
    let none : 0 ≡ count = All-head (λ (row : Row). length row ≡ count) [] rows alike in
    absurd (omega (arith, none, some))
read_back-same count some ((field ∷ fields) ∷ rows) alike =
    ap (λ (r : List (List (List ℕ))). map csv_field (field ∷ fields) ∷ r)
    (read_back-same count some rows (All-tail (λ (row : Row). length row ≡ count) (field ∷ fields) rows alike))

-- the records of rows in CSV
csv-records : (delimiter : ℕ) → IsDelimiter delimiter → (count : ℕ) → 0 < count → (rows : List Row) → All (λ (row : Row). length row ≡ count) rows
    → BeginsWithDigit (rows_text delimiter rows) → AreRecords default_config st.StartRecord (strip_bom (csv_text rows)) (map (map csv_field) rows)
csv-records delimiter delimits count some rows alike begins =
    subst (λ (text : List ℕ). AreRecords default_config st.StartRecord text (map (map csv_field) rows)) (sym (strip-csv delimiter delimits count some rows alike begins))
    (subst (λ (records : List (List (List ℕ))). AreRecords default_config st.StartRecord (csv_text rows) records) (read_back-same count some rows alike)
    (are_records-records_text (map (map csv_field) rows)))

-- none of them is bad
pub csv-good : (count : ℕ) (rows : List Row) → All (λ (row : Row). length row ≡ count) rows → AreGood count (map (map csv_field) rows)
csv-good count [] alike = All-nil (λ (fields : List (List ℕ)). is_bad_record count fields ≡ false)
csv-good count (row ∷ rows) alike =
    let same : length (map csv_field row) ≡ count = length-map row csv_field ∙ All-head (λ (r : Row). length r ≡ count) row rows alike in
    let good : is_bad_record count (map csv_field row) ≡ false = rw (eq-eqb (length (map csv_field row)) count same, has_bad_field-csv row) refl in
    All-cons (λ (fields : List (List ℕ)). is_bad_record count fields ≡ false) (map csv_field row) (map (map csv_field) rows)
    good (csv-good count rows (All-tail (λ (r : Row). length r ≡ count) row rows alike))

-- rows in CSV are read as their text
pub csv_text-read : (delimiter : ℕ) → IsDelimiter delimiter → (count : ℕ) (rows : List Row) (text : List ℕ) → IsCopyText delimiter count rows text → BeginsWithDigit text
    → IsReadAs delimiter count (csv_text rows) text
csv_text-read delimiter delimits count rows text copy begins = record {
  records = map (map csv_field) rows;
  are = csv-records delimiter delimits count copy.some rows copy.alike (subst BeginsWithDigit copy.written begins);
  good = csv-good count rows copy.alike;
  is = copy.written ∙ ap (rows_text delimiter) (sym (rows-csv rows));
}

-- bytes are read as one text
pub read-one : (first : List (List (List ℕ))) (delimiter count : ℕ) (bytes text other : List ℕ) → IsReadAfter first delimiter count bytes text →
    IsReadAfter first delimiter count bytes other → text ≡ other
read-one first delimiter count bytes text other one two =
    one.is ∙ ap (λ (r : List (List (List ℕ))). rows_text delimiter (map (map row_field) r))
    (are_records-after default_config st.StartRecord (strip_bom bytes) first one.records two.records one.are two.are) ∙ sym two.is

-- bytes that are read have no bad record
pub read-none_bad : (first : List (List (List ℕ))) (delimiter count : ℕ) (bytes text : List ℕ) (number : ℕ) → IsReadAfter first delimiter count bytes text →
    HasBadAfter first count bytes number → ⊥
read-none_bad first delimiter count bytes text number read found =
    let fine = reached-good_after default_config count st.StartRecord found.state (strip_bom bytes) found.rest first found.before found.bad read.records found.reached read.are read.good in
    cc (found.is_bad, fine)

-- one record is the first bad one
pub bad-one : (first : List (List (List ℕ))) (count : ℕ) (bytes : List ℕ) (number other : ℕ) → HasBadAfter first count bytes number → HasBadAfter first count bytes other → number ≡ other
bad-one first count bytes number other one two =
    let same = first_bad-after default_config count st.StartRecord one.state two.state (strip_bom bytes) one.rest two.rest first one.before two.before one.bad two.bad
    one.reached two.reached one.good two.good one.is_bad two.is_bad in
    one.at ∙ ap (λ n. length first + (n + 1)) same ∙ sym two.at

-- a text has one CSV
pub csv-one : (delimiter : ℕ) (text csv other : List ℕ) → IsDelimiter delimiter → IsCsvOf delimiter text csv → IsCsvOf delimiter text other → csv ≡ other
csv-one delimiter text csv other delimits one two =
    let records = records_behind-rows_text delimiter delimits one.fields one.copy.some one.rows one.copy.alike in
    let others = records_behind-rows_text delimiter delimits two.fields two.copy.some two.rows two.copy.alike in
    one.is ∙ ap records_text (sym records ∙ ap (λ (t : List ℕ). records_behind delimiter [] [] false t) (sym one.copy.written ∙ two.copy.written) ∙ others) ∙ sym two.is
