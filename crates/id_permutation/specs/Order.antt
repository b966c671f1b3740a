-- Orders: the numbers below a size in their own places, or in those of the permutation that a seed makes.
use Rattle.std.specs.Prelude.{ℕ, Option, None, Some}
use Rattle.id_permutation.specs.Placement.{place, unplace}

-- an order: of how many numbers, and by which seed, or by none where each number stays in its own place
pub record Arrangement : Type 0 where
  pub size : ℕ
  pub seed : Option ℕ

-- the place of x among `size` numbers
abbrev pub place_by : ℕ → Option ℕ → ℕ → ℕ
place_by size None x = x
place_by size (Some seed) x = place size seed x

-- the number whose place among `size` is y
abbrev pub number_by : ℕ → Option ℕ → ℕ → ℕ
number_by size None y = y
number_by size (Some seed) y = unplace size seed y

-- how many steps a place or a number costs
abbrev pub steps_by : Option ℕ → ℕ
steps_by None = 0
steps_by (Some seed) = 1

-- the place of the number x
abbrev pub place_in : Arrangement → ℕ → ℕ
place_in order x = place_by order.size order.seed x

-- the number whose place is y
abbrev pub number_at : Arrangement → ℕ → ℕ
number_at order y = number_by order.size order.seed y

-- how many steps one place or one number takes: one, or none where there is no seed
abbrev pub order_steps : Arrangement → ℕ
order_steps order = steps_by order.seed
