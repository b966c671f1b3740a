-- A text in COPY text form, read byte by byte.
use Rattle.std.specs.Prelude.{ℕ, ◌==◌, ◌&&◌, Bool, true, false, if◌then◌else◌, List, [], ◌∷◌, ◌++◌, not}

-- a byte that stands for itself, where no backslash stands before it
abbrev pub is_plain : ℕ → ℕ → Bool
is_plain delimiter byte = not (byte == 92) && not (byte == delimiter) && not (byte == 10)

-- the byte that a backslash and a letter stand for
abbrev pub byte_of : ℕ → ℕ
byte_of letter =
    if letter == 98 then 8 else
    (if letter == 116 then 9 else
    (if letter == 110 then 10 else
    (if letter == 118 then 11 else
    (if letter == 102 then 12 else
    (if letter == 114 then 13 else letter)))))

-- a byte of a text after what a record's field holds of it: a backslash that it begins with is written twice
abbrev pub with_byte : List ℕ → ℕ → List ℕ
with_byte [] byte = if byte == 92 then 92 ∷ 92 ∷ [] else byte ∷ []
with_byte (first ∷ field) byte = (first ∷ field) ++ byte ∷ []

-- the same of a backslash and a letter
abbrev pub with_letter : List ℕ → ℕ → List ℕ
with_letter field letter = if letter == 78 then field ++ 92 ∷ 78 ∷ [] else with_byte field (byte_of letter)

-- the records of what is left of a text, by the fields of the record at hand, the bytes of the field at hand, and whether a backslash is
-- read whose letter isn't
unfoldable pub records_behind : ℕ → List (List ℕ) → List ℕ → Bool → List ℕ → List (List (List ℕ))
records_behind delimiter fields field escape [] = []
records_behind delimiter fields field true (byte ∷ rest) = records_behind delimiter fields (with_letter field byte) false rest
records_behind delimiter fields field false (byte ∷ rest) =
    if byte == 92 then records_behind delimiter fields field true rest else
    (if byte == delimiter then records_behind delimiter (fields ++ field ∷ []) [] false rest else
    (if byte == 10 then (fields ++ field ∷ []) ∷ records_behind delimiter [] [] false rest else
    records_behind delimiter fields (field ++ byte ∷ []) false rest))
