-- What CSV is read as.
use Rattle.std.specs.Prelude.{◌≡◌, ◌≢◌, ◌⊎◌, ◌+◌, ◌==◌, ℕ, All, Bool, true, false, not, ◌&&◌, ◌||◌, if◌then◌else◌, List, [], ◌∷◌, ◌++◌, length, map, Option, Some, None}
use Rattle.std.specs.List.{list_any}
use Rattle.csv.specs.Reading.{AreRecords, Reached, default_config, strip_bom}
use Rattle.csv.specs.declared.parser.State.{State}
use Rattle.csv.specs.declared.parser.State.TheVariants as st
use Rattle.csv_face.specs.Csv.{rows_text}
use Rattle.csv_face.specs.declared.fault.CsvFault.{CsvFault}
use Rattle.csv_face.specs.declared.fault.CsvFault.TheVariants.{BadRecord, Memory}

-- whether nothing is after a byte
abbrev pub is_alone : List ℕ → Bool
is_alone [] = true
is_alone (byte ∷ bytes) = false

-- whether what is after a field's first backslash makes it none that a field of a row gives: it is neither a second one nor N alone
abbrev pub is_bad_behind : List ℕ → Bool
is_bad_behind [] = true
is_bad_behind (byte ∷ bytes) = not (byte == 92) && not (byte == 78 && is_alone bytes)

-- whether a field of a record is one that no field of a row gives
abbrev pub is_bad_field : List ℕ → Bool
is_bad_field [] = false
is_bad_field (byte ∷ bytes) = byte == 92 && is_bad_behind bytes

-- what is after a field's first backslash: a text that begins with one, or null
abbrev pub field_behind : List ℕ → Option (List ℕ)
field_behind [] = None
field_behind (byte ∷ bytes) = if byte == 92 then Some (byte ∷ bytes) else None

-- the field of a row that a field of a record stands for
abbrev pub row_field : List ℕ → Option (List ℕ)
row_field [] = Some []
row_field (byte ∷ bytes) = if byte == 92 then field_behind bytes else Some (byte ∷ bytes)

-- whether a record is bad: it has another number of fields, or one that no field of a row gives
abbrev pub is_bad_record : ℕ → List (List ℕ) → Bool
is_bad_record count fields = not (length fields == count) || list_any is_bad_field fields

abbrev pub AreGood : ℕ → List (List (List ℕ)) → Type 0
AreGood count records = All (λ fields. is_bad_record count fields ≡ false) records

-- after some first records, bytes are the CSV of a text: of the other records that the crate `csv` reads, none is bad, and their rows are the
-- text's
pub record IsReadAfter (first : List (List (List ℕ))) (delimiter count : ℕ) (bytes text : List ℕ) : Type 0 where
  pub records : List (List (List ℕ))
  pub are : AreRecords default_config st.StartRecord (strip_bom bytes) (first ++ records)
  pub good : AreGood count records
  pub is : text ≡ rows_text delimiter (map (map row_field) records)

-- after some first records, the record of a number, counted from 1, is the first that is bad
pub record HasBadAfter (first : List (List (List ℕ))) (count : ℕ) (bytes : List ℕ) (number : ℕ) : Type 0 where
  pub before : List (List (List ℕ))
  pub bad : List (List ℕ)
  pub state : State
  pub rest : List ℕ
  pub reached : Reached default_config st.StartRecord (strip_bom bytes) (first ++ (before ++ bad ∷ [])) state rest
  pub good : AreGood count before
  pub is_bad : is_bad_record count bad ≡ true
  pub at : number ≡ length first + (length before + 1)

-- a fault that bytes have after some first records
abbrev pub IsFaultAfter : List (List (List ℕ)) → ℕ → List ℕ → CsvFault → Type 0
IsFaultAfter first count bytes (BadRecord number) = HasBadAfter first count bytes number
IsFaultAfter first count bytes Memory = Unit {0}

-- ---- without names

abbrev pub IsReadAs : ℕ → ℕ → List ℕ → List ℕ → Type 0
IsReadAs delimiter count bytes text = IsReadAfter [] delimiter count bytes text

abbrev pub HasBadRecord : ℕ → List ℕ → ℕ → Type 0
HasBadRecord count bytes number = HasBadAfter [] count bytes number

abbrev pub IsCsvFault : ℕ → List ℕ → CsvFault → Type 0
IsCsvFault count bytes fault = IsFaultAfter [] count bytes fault

-- ---- with names as the first record, of which each other record has as many fields

abbrev pub IsNamedReadAs : ℕ → List (List ℕ) → List ℕ → List ℕ → Type 0
IsNamedReadAs delimiter names bytes text = IsReadAfter (names ∷ []) delimiter (length names) bytes text

-- the first record of bytes isn't the names
pub record HasOtherFirst (names : List (List ℕ)) (bytes : List ℕ) : Type 0 where
  pub first : List (List ℕ)
  pub state : State
  pub rest : List ℕ
  pub reached : Reached default_config st.StartRecord (strip_bom bytes) (first ∷ []) state rest
  pub other : first ≢ names

-- bytes have no record, or another first one
abbrev pub LacksNames : List (List ℕ) → List ℕ → Type 0
LacksNames names bytes = AreRecords default_config st.StartRecord (strip_bom bytes) [] ⊎ HasOtherFirst names bytes

-- the record of a number is the first that is bad: the first one of all where it isn't the names
abbrev pub HasBadNamed : List (List ℕ) → List ℕ → ℕ → Type 0
HasBadNamed names bytes number = ((number ≡ 1) × LacksNames names bytes) ⊎ HasBadAfter (names ∷ []) (length names) bytes number

-- a fault that bytes have
abbrev pub IsNamedFault : List (List ℕ) → List ℕ → CsvFault → Type 0
IsNamedFault names bytes (BadRecord number) = HasBadNamed names bytes number
IsNamedFault names bytes Memory = Unit {0}
