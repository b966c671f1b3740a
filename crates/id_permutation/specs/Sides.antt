-- The sides of the rectangle of n numbers, as a shape holds them. No public clause cites this module.
use Rattle.std.specs.Prelude.{◌≡◌, ℕ, ◌<◌, ◌≤◌, ◌^◌}
use Rattle.id_permutation.specs.Placement.{height_of, width_of}

-- a and b are the height and the width, and n is neither 0 nor past the largest size
pub record AreSides (n a b : ℕ) : Type 0 where
  pub some : 0 < n
  pub small : n ≤ 2 ^ 40
  pub tall : a ≡ height_of n
  pub wide : b ≡ width_of n
  pub rows : 0 < a
  pub columns : 0 < b
  pub low : a ≤ 2 ^ 20
  pub narrow : b ≤ 2 ^ 20
