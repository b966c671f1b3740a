-- A field of a line, as it is written in COPY text form (PostgreSQL's manual, "COPY", text format).
use Rattle.std.specs.Prelude.{◌≡◌, ◌⊎◌, ℕ, ◌==◌, ◌&&◌, if◌then◌else◌, List, [], ◌∷◌, flat_map, codes, Option, Some, None}

-- a byte that may stand between two fields: a tab or a bar
abbrev pub IsDelimiter : ℕ → Type 0
IsDelimiter delimiter = (delimiter ≡ 9) ⊎ (delimiter ≡ 124)

-- a byte that may stand after a field: the delimiter, or the line feed that ends the line
abbrev pub EndsField : ℕ → ℕ → Type 0
EndsField delimiter byte = (byte ≡ delimiter) ⊎ (byte ≡ 10)

-- a byte of a text as it is written: itself, or a backslash and a byte that tells which one it was
unfoldable pub escaped : ℕ → ℕ → List ℕ
escaped delimiter byte =
    if byte == 8 then codes "\\b" else
    (if byte == 9 then codes "\\t" else
    (if byte == 10 then codes "\\n" else
    (if byte == 11 then codes "\\v" else
    (if byte == 12 then codes "\\f" else
    (if byte == 13 then codes "\\r" else
    (if byte == 92 then codes "\\\\" else
    (if byte == 124 && delimiter == 124 then codes "\\|" else byte ∷ [])))))))

-- a text as it is written
abbrev pub escaped_text : ℕ → List ℕ → List ℕ
escaped_text delimiter bytes = flat_map (escaped delimiter) bytes

-- a field as it is written: a null field is \N
abbrev pub field_text : ℕ → Option (List ℕ) → List ℕ
field_text delimiter None = codes "\\N"
field_text delimiter (Some bytes) = escaped_text delimiter bytes
