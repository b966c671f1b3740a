-- The reciprocal of a number, and what a product with it tells of a quotient.
use Rattle.std.specs.Prelude.{◌≡◌, ℕ, ◌+◌, ◌*◌, ◌/◌, ◌-◌, ◌<◌, ◌≤◌, ◌^◌}

-- how often a number goes into the largest number of 64 bits
abbrev pub reciprocal_of : ℕ → ℕ
reciprocal_of number = (2 ^ 64 - 1) / number

-- the number isn't 0, and this is its reciprocal
pub record IsReciprocal (number reciprocal : ℕ) : Type 0 where
  pub some : 0 < number
  pub exact : reciprocal ≡ reciprocal_of number

-- the estimate is the quotient of x by the divisor, or one less
pub record IsEstimate (x divisor estimate : ℕ) : Type 0 where
  pub low : estimate * divisor ≤ x
  pub high : x < (estimate + 2) * divisor
