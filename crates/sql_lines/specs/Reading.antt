-- Fields as they are written in a line, read back.
use Rattle.std.specs.Prelude.{◌≢◌, ◌<◌, ℕ, ◌==◌, ◌&&◌, Bool, true, false, not, if◌then◌else◌, List, [], ◌∷◌, Option, Some, None, get_or, length}

-- ---- where a field ends

-- the bytes of a field that ends before a byte, which a backslash before it makes part of the field; and the bytes after that one. Each by
-- whether a backslash is read already
abbrev pub field_from : Bool → ℕ → List ℕ → List ℕ
field_from escape stop [] = []
field_from escape stop (byte ∷ bytes) =
    if byte == stop && not escape then [] else byte ∷ field_from (byte == 92 && not escape) stop bytes

abbrev pub behind_from : Bool → ℕ → List ℕ → List ℕ
behind_from escape stop [] = []
behind_from escape stop (byte ∷ bytes) =
    if byte == stop && not escape then bytes else behind_from (byte == 92 && not escape) stop bytes

abbrev pub field_before : ℕ → List ℕ → List ℕ
field_before stop bytes = field_from false stop bytes

abbrev pub field_behind : ℕ → List ℕ → List ℕ
field_behind stop bytes = behind_from false stop bytes

-- ---- what it holds

-- the byte that a backslash and a letter stand for
abbrev pub byte_of : ℕ → ℕ
byte_of letter =
    if letter == 98 then 8 else
    (if letter == 116 then 9 else
    (if letter == 110 then 10 else
    (if letter == 118 then 11 else
    (if letter == 102 then 12 else
    (if letter == 114 then 13 else letter)))))

-- the text of a field, by whether a backslash is read already
abbrev pub text_from : Bool → List ℕ → List ℕ
text_from escape [] = []
text_from escape (byte ∷ bytes) =
    if byte == 92 && not escape then text_from true bytes else (if escape then byte_of byte else byte) ∷ text_from false bytes

-- whether it is that of a null field
abbrev pub is_null : List ℕ → Bool
is_null (first ∷ second ∷ []) = first == 92 && second == 78
is_null _ = false

-- the field
abbrev pub field_read : List ℕ → Option (List ℕ)
field_read bytes = if is_null bytes then None else Some (text_from false bytes)

-- ---- plain bytes

-- bytes without a backslash and without a quote
abbrev pub IsPlain : List ℕ → Type 0
IsPlain bytes = (i : ℕ) → i < length bytes → (get_or bytes i 0 ≢ 92) × (get_or bytes i 0 ≢ 39)
