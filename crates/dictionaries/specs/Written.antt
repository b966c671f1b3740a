-- Word lists as bytes that are read as them.
use Rattle.std.specs.Prelude.{ℕ, ◌≢◌, List, [], ◌∷◌, ◌++◌, All, decimal}
use Rattle.dictionaries.specs.WordList.{WordList}
use Rattle.dictionaries.specs.Grammar.{byte_order_mark}

-- the text has no tab and no line feed
abbrev pub IsPlain : List ℕ → Type 0
IsPlain text = All (λ byte. (byte ≢ 9) × (byte ≢ 10)) text

-- an entry, a tab and its weight in decimal
abbrev pub written_line : List ℕ → ℕ → List ℕ
written_line entry weight = entry ++ 9 ∷ decimal weight

-- a line for each entry
unfoldable pub written_lines : List (List ℕ) → List ℕ → List ℕ
written_lines (entry ∷ entries) (weight ∷ weights) = written_line entry weight ++ 10 ∷ written_lines entries weights
written_lines entries weights = []

-- the lines of a word list, after a byte order mark
abbrev pub written_list : WordList → List ℕ
written_list list = byte_order_mark ++ written_lines list.entries list.weights
