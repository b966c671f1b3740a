-- Texts one after the other in one buffer, with the place where each ends.
use Rattle.std.specs.Prelude.{◌≡◌, ℕ, zero, suc, ◌<◌, ◌≤◌, List, length, map, slice_index}
use Rattle.std.specs.List.{range_with_len, slice_range}

-- where the text at a place begins: where the one before it ends, and the first one at 0
abbrev pub start_of : List ℕ → ℕ → ℕ
start_of ends zero = 0
start_of ends (suc i) = slice_index ends i

-- the text at a place
abbrev pub written_text_at : List ℕ → List ℕ → ℕ → List ℕ
written_text_at bytes ends i = slice_range bytes (start_of ends i) (slice_index ends i)

-- the texts of a buffer, in order
unfoldable pub texts_in : List ℕ → List ℕ → List (List ℕ)
texts_in bytes ends = map (written_text_at bytes ends) (range_with_len 0 (length ends))

-- no text ends before it begins or after the buffer, and the last one ends where the buffer does
pub record AreEnds (bytes ends : List ℕ) : Type 0 where
  pub order : (i : ℕ) → i < length ends → start_of ends i ≤ slice_index ends i
  pub within : (i : ℕ) → i < length ends → slice_index ends i ≤ length bytes
  pub last : start_of ends (length ends) ≡ length bytes
