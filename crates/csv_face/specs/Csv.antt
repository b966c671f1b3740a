-- Rows as CSV, and the texts of rows in both forms.
use Rattle.std.specs.Prelude.{◌≡◌, ◌<◌, ◌≤◌, ◌==◌, ℕ, All, if◌then◌else◌, List, [], ◌∷◌, ◌++◌, codes, flat_map, length, map, Option, Some, None, ⊤}
use Rattle.row_text.specs.Lines.{line_text}
use Rattle.csv.specs.Writing as writing

-- the fields of a row, of which None is null
abbrev pub Row : Type 0
Row = List (Option (List ℕ))

-- a text, with one more backslash before it where it begins with one
abbrev pub guarded : List ℕ → List ℕ
guarded [] = []
guarded (byte ∷ bytes) = if byte == 92 then 92 ∷ byte ∷ bytes else byte ∷ bytes

-- a field as one of a CSV record: null is \N
abbrev pub csv_field : Option (List ℕ) → List ℕ
csv_field None = codes "\\N"
csv_field (Some bytes) = guarded bytes

-- the lines of rows, one after the other, in COPY text form
abbrev pub rows_text : ℕ → List Row → List ℕ
rows_text delimiter rows = flat_map (λ row. line_text delimiter row ++ 10 ∷ []) rows

-- a CSV record, as the crate `csv` writes it where nothing else is asked for: a comma between two fields, quotes round one that wants
-- them, and a line feed at the end
abbrev pub record_text : List (List ℕ) → List ℕ
record_text fields = writing.row_text writing.default_writer fields

abbrev pub records_text : List (List (List ℕ)) → List ℕ
records_text records = flat_map record_text records

-- rows as CSV
abbrev pub csv_text : List Row → List ℕ
csv_text rows = records_text (map (map csv_field) rows)

-- names as the first record of CSV
abbrev pub names_text : List (List ℕ) → List ℕ
names_text names = record_text names

-- the first of some names begins with a byte of ASCII, as the name of a column does
abbrev pub BeginInAscii : List (List ℕ) → Type 0
BeginInAscii [] = ⊥
BeginInAscii ([] ∷ names) = ⊥
BeginInAscii ((byte ∷ bytes) ∷ names) = byte < 128

-- a text is the lines of rows, which have so many fields each, one or more
pub record IsCopyText (delimiter fields : ℕ) (rows : List Row) (text : List ℕ) : Type 0 where
  pub some : 0 < fields
  pub alike : All (λ row. length row ≡ fields) rows
  pub written : text ≡ rows_text delimiter rows

-- a text is the lines of some rows with as many fields each
pub record HasRows (delimiter : ℕ) (text : List ℕ) : Type 0 where
  pub fields : ℕ
  pub rows : List Row
  pub copy : IsCopyText delimiter fields rows text

-- a text in COPY text form, and the same rows as CSV
pub record IsCsvOf (delimiter : ℕ) (text csv : List ℕ) : Type 0 where
  pub fields : ℕ
  pub rows : List Row
  pub copy : IsCopyText delimiter fields rows text
  pub is : csv ≡ csv_text rows

-- a text begins with a digit, as one does whose first line begins with a key, or is empty
abbrev pub BeginsWithDigit : List ℕ → Type 0
BeginsWithDigit [] = ⊤
BeginsWithDigit (byte ∷ bytes) = (48 ≤ byte) × (byte ≤ 57)
