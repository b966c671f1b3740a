-- Names of tables and columns.
use Rattle.std.specs.Prelude.{ℕ, Bool, false, ◌&&◌, ◌||◌, ◌==◌, nat_le, List, [], ◌∷◌, length}
use Rattle.std.specs.List.{list_all}
use lib.Pointwise.{pointwise}

-- whether two texts are the same, byte by byte
abbrev pub same_text : List ℕ → List ℕ → Bool
same_text = pointwise ◌==◌

-- a to z
abbrev pub is_letter : ℕ → Bool
is_letter b = nat_le 97 b && nat_le b 122

-- a to z, 0 to 9 or _
abbrev pub is_name_byte : ℕ → Bool
is_name_byte b = is_letter b || (nat_le 48 b && nat_le b 57) || b == 95

abbrev pub begins_with_letter : List ℕ → Bool
begins_with_letter [] = false
begins_with_letter (b ∷ bs) = is_letter b

-- a letter, and then letters, digits and _: at most 32 bytes together
abbrev pub is_name : List ℕ → Bool
is_name bs = begins_with_letter bs && nat_le (length bs) 32 && list_all is_name_byte bs
