-- Lines in COPY text form that CSV writes alike, but for what stands between two fields.
use Rattle.std.specs.Prelude.{◌≡◌, ◌≢◌, ◌<◌, ◌+◌, ◌==◌, ◌&&◌, ◌||◌, ℕ, Bool, false, if◌then◌else◌, List, [], ◌∷◌, get_or, length, map, not, ⊤}

-- whether CSV may write a byte otherwise than as it stands, where it isn't a delimiter, by the byte after it: a field may want quotes, a
-- backslash may stand before another letter than that of null, a line may be empty
abbrev pub may_differ : ℕ → ℕ → Bool
may_differ byte next =
    (byte == 34) || (byte == 44) || (byte == 13) || ((byte == 92) && not (next == 78)) || ((byte == 10) && (next == 10))

-- so many bytes of a text from a place on stand in CSV as they are
abbrev pub StandAlike : List ℕ → ℕ → ℕ → Type 0
StandAlike text start count = (k : ℕ) → k < count → may_differ (get_or text (start + k) 0) (get_or text (start + k + 1) 0) ≡ false

-- each line of a text has its line feed
unfoldable pub EndsALine : List ℕ → Type 0
EndsALine [] = ⊤
EndsALine (byte ∷ []) = byte ≡ 10
EndsALine (byte ∷ next ∷ rest) = EndsALine (next ∷ rest)

-- the first line of a text isn't empty
abbrev pub BeginsALine : List ℕ → Type 0
BeginsALine [] = ⊤
BeginsALine (byte ∷ rest) = byte ≢ 10

-- whole lines whose bytes stand in CSV as they are, but for the delimiters
pub record AreAlike (text : List ℕ) : Type 0 where
  pub begins : BeginsALine text
  pub ends : EndsALine text
  pub stand : (k : ℕ) → k + 1 < length text → may_differ (get_or text k 0) (get_or text (k + 1) 0) ≡ false

abbrev pub byte_in_csv : ℕ → ℕ → ℕ
byte_in_csv delimiter byte = if byte == delimiter then 44 else byte

-- lines with commas in the place of their delimiters
abbrev pub with_commas : ℕ → List ℕ → List ℕ
with_commas delimiter text = map (byte_in_csv delimiter) text
