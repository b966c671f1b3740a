-- CSV whose first record is names.
use Rattle.std.proofs.Common.{◌≡◌, ℕ, List, [], ◌∷◌, ◌++◌, length, map, inl, inr, ap, arith, subst, sym, ◌∙◌}
use Rattle.std.proofs.lemmas.Bool.{ne_eqb}
use Rattle.csv.specs.Reading.{AreRecords, default_config, strip_bom}
use Rattle.csv.specs.declared.parser.State.TheVariants as st
use Rattle.csv_face.specs.Csv.{BeginInAscii, IsCopyText, Row, csv_field, csv_text, names_text, records_text, rows_text}
use Rattle.csv_face.specs.Reading.{HasBadAfter, HasBadNamed, IsNamedReadAs, LacksNames}
use Rattle.csv_face.proofs.BackLemmas.{bad-one, csv-good, read-none_bad, read_back-same, strip-record}
use Rattle.csv_face.proofs.FieldLemmas.{rows-csv}
use Rattle.csv_face.proofs.RecordLemmas.{are_records-records_text, first-same, none-reached}

-- the byte order mark isn't ASCII
strip-named : (names : List (List ℕ)) (tail : List ℕ) → BeginInAscii names → strip_bom (names_text names ++ tail) ≡ names_text names ++ tail
strip-named [] tail ascii = absurd ascii
strip-named ([] ∷ names) tail ascii = absurd ascii
strip-named ((byte ∷ bytes) ∷ names) tail ascii = strip-record byte bytes names tail (ne_eqb byte 239 (omega (arith, ascii)))

-- names and the records of rows are the records of the names and the rows in CSV
named-records : (names : List (List ℕ)) (count : ℕ) (rows : List Row) (text : List ℕ) (delimiter : ℕ) → BeginInAscii names → IsCopyText delimiter count rows text →
    AreRecords default_config st.StartRecord (strip_bom (names_text names ++ csv_text rows)) (names ∷ map (map csv_field) rows)
named-records [] count rows text delimiter ascii copy = absurd ascii
named-records (name ∷ names) count rows text delimiter ascii copy =
    subst (λ (bytes : List ℕ). AreRecords default_config st.StartRecord bytes ((name ∷ names) ∷ map (map csv_field) rows)) (sym (strip-named (name ∷ names) (csv_text rows) ascii))
    (subst (λ (records : List (List (List ℕ))). AreRecords default_config st.StartRecord (records_text ((name ∷ names) ∷ map (map csv_field) rows)) ((name ∷ names) ∷ records))
    (read_back-same count copy.some rows copy.alike) (are_records-records_text ((name ∷ names) ∷ map (map csv_field) rows)))

-- names and rows in CSV are read as the text of the rows
pub named-read : (delimiter : ℕ) (names : List (List ℕ)) (rows : List Row) (text : List ℕ) → BeginInAscii names → IsCopyText delimiter (length names) rows text →
    IsNamedReadAs delimiter names (names_text names ++ csv_text rows) text
named-read delimiter names rows text ascii copy = record {
  records = map (map csv_field) rows;
  are = named-records names (length names) rows text delimiter ascii copy;
  good = csv-good (length names) rows copy.alike;
  is = copy.written ∙ ap (rows_text delimiter) (sym (rows-csv rows));
}

-- bytes that lack the names aren't read, and no other record of them is the first bad one
lacks-read : (delimiter : ℕ) (names : List (List ℕ)) (bytes text : List ℕ) → LacksNames names bytes → IsNamedReadAs delimiter names bytes text → ⊥
lacks-read delimiter names bytes text (inl none) read = none-reached default_config st.StartRecord read.are.0 (strip_bom bytes) read.are.1 names read.records none read.are.2
lacks-read delimiter names bytes text (inr other) read =
    other.other (first-same default_config st.StartRecord other.state read.are.0 (strip_bom bytes) other.rest read.are.1 other.first names [] read.records other.reached read.are.2)

lacks-bad : (names : List (List ℕ)) (bytes : List ℕ) (number : ℕ) → LacksNames names bytes → HasBadAfter (names ∷ []) (length names) bytes number → ⊥
lacks-bad names bytes number (inl none) bad = none-reached default_config st.StartRecord bad.state (strip_bom bytes) bad.rest names (bad.before ++ bad.bad ∷ []) none bad.reached
lacks-bad names bytes number (inr other) bad =
    other.other (first-same default_config st.StartRecord other.state bad.state (strip_bom bytes) other.rest bad.rest other.first names [] (bad.before ++ bad.bad ∷ []) other.reached bad.reached)

pub named-none_bad : (delimiter : ℕ) (names : List (List ℕ)) (bytes text : List ℕ) (number : ℕ) → IsNamedReadAs delimiter names bytes text → HasBadNamed names bytes number → ⊥
named-none_bad delimiter names bytes text number read (inl lacks) = lacks-read delimiter names bytes text lacks.1 read
named-none_bad delimiter names bytes text number read (inr bad) = read-none_bad (names ∷ []) delimiter (length names) bytes text number read bad

pub named-bad_one : (names : List (List ℕ)) (bytes : List ℕ) (number other : ℕ) → HasBadNamed names bytes number → HasBadNamed names bytes other → number ≡ other
named-bad_one names bytes number other (inl one) (inl two) = one.0 ∙ sym two.0
named-bad_one names bytes number other (inl one) (inr two) = absurd (lacks-bad names bytes other one.1 two)
named-bad_one names bytes number other (inr one) (inl two) = absurd (lacks-bad names bytes number two.1 one)
named-bad_one names bytes number other (inr one) (inr two) = bad-one (names ∷ []) (length names) bytes number other one two
