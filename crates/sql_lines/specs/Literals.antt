-- A field as a literal of SQL.
use Rattle.std.specs.Prelude.{ℕ, ◌==◌, if◌then◌else◌, Bool, true, false, List, [], ◌∷◌, ◌++◌, flat_map, codes, Option, Some, None}

-- a byte of a text between two quotes: a quote is written twice, and each other byte as it is
unfoldable pub quoted : ℕ → List ℕ
quoted byte = if byte == 39 then 39 ∷ 39 ∷ [] else byte ∷ []

-- a byte of a bare text or of one between quotes, and the whole of such a text
abbrev pub text_byte : Bool → ℕ → List ℕ
text_byte true byte = byte ∷ []
text_byte false byte = quoted byte

abbrev pub literal_text : Bool → List ℕ → List ℕ
literal_text bare bytes = flat_map (text_byte bare) bytes

-- a text between two quotes
abbrev pub quoted_text : List ℕ → List ℕ
quoted_text bytes = 39 ∷ flat_map quoted bytes ++ 39 ∷ []

-- the literal of a field, bare or between quotes; that of a null field is NULL
abbrev pub literal : Bool → Option (List ℕ) → List ℕ
literal bare None = codes "NULL"
literal true (Some bytes) = bytes
literal false (Some bytes) = quoted_text bytes
