-- Numbers in decimal, with a fixed number of digits.
use Rattle.std.specs.Prelude.{◌≡◌, ℕ, zero, suc, ◌+◌, ◌-◌, ◌/◌, ◌%◌, ◌^◌, ◌<◌, ◌≤◌, List, [], ◌∷◌, ◌++◌, length, get_or}
use Rattle.line_pages.specs.Pieces.{low_bytes}

-- the last digits of a number, as many as are said, zeros included
unfoldable pub last_digits : ℕ → ℕ → List ℕ
last_digits zero n = []
last_digits (suc count) n = last_digits count (n / 10) ++ (48 + n % 10) ∷ []

-- a number has so many digits: 0 has one, and no other number begins with 0
pub record HasDigits (n count : ℕ) : Type 0 where
  pub some : 1 ≤ count
  pub few : n < 10 ^ count
  pub many : 2 ≤ count → 10 ^ (count - 1) ≤ n

-- the words hold the texts of the numbers below 10,000, of four digits each, in their order
pub record AreFours (words : List ℕ) : Type 0 where
  pub all : length words ≡ 10000
  pub each : (n : ℕ) → n < 10000 → low_bytes 4 (get_or words n 0) ≡ last_digits 4 n
