-- The permutation of 0..n-1 that a seed makes: a generalized Feistel network over a rectangle of at least n numbers, and a walk
-- along its cycles until below n (Black and Rogaway, "Ciphers with Arbitrary Finite Domains", CT-RSA 2002).
use Rattle.std.specs.Prelude.{ℕ, zero, suc, ◌+◌, ◌-◌, ◌*◌, ◌/◌, ◌%◌, ◌<◌, ◌==◌, nat_le, if◌then◌else◌}
use Rattle.philox_seeds.specs.Philox.{high_word, low_word}
use Rattle.philox_seeds.specs.SeedTree.{keyed_number}
use Rattle.id_permutation.specs.Least.{least}
use Rattle.id_permutation.specs.Walk.{inverse_below, IsFirstBelow, first_below}
use Rattle.id_permutation.specs.declared.halves.Halves.{Halves}

-- a, the height of the rectangle: the least number whose square is at least n
unfoldable pub height_of : ℕ → ℕ
height_of n = least (λ a. nat_le n (a * a)) n

-- b, the width of the rectangle: n / a, rounded up
unfoldable pub width_of : ℕ → ℕ
width_of n = (n + (height_of n - 1)) / height_of n

-- the halves of a number: its row and its place there
abbrev pub halves_of : ℕ → ℕ → Halves
halves_of b x = record { left = x / b; right = x % b }

-- the number of two halves
abbrev pub number_of : ℕ → Halves → ℕ
number_of b halves = halves.left * b + halves.right

-- the halves are of a rectangle of height a and width b
pub record IsWithin (a b : ℕ) (halves : Halves) : Type 0 where
  pub left_below : halves.left < a
  pub right_below : halves.right < b

-- how many rounds there are
abbrev pub round_count : ℕ
round_count = 6

-- the counter's last word, which tells the round numbers from seeds and draws
abbrev pub round_level : ℕ
round_level = 6

-- the round function: the number that the seed gives at (low word of v, high word of v, round, 6)
unfoldable pub round_number : ℕ → ℕ → ℕ → ℕ
round_number seed i v = keyed_number seed (low_word v) (high_word v) i round_level

-- round i: an even round adds to the left half, modulo a, and an odd one to the right half, modulo b
unfoldable pub round : ℕ → ℕ → ℕ → ℕ → Halves → Halves
round a b seed i halves =
    if i % 2 == 0 then record { left = (halves.left + round_number seed i halves.right) % a; right = halves.right }
    else record { left = halves.left; right = (halves.right + round_number seed i halves.left) % b }

-- the first k rounds, round 0 first
unfoldable pub rounds : ℕ → ℕ → ℕ → ℕ → Halves → Halves
rounds a b seed zero halves = halves
rounds a b seed (suc k) halves = round a b seed k (rounds a b seed k halves)

-- the map of the rectangle's numbers by all rounds
unfoldable pub mix : ℕ → ℕ → ℕ → ℕ
mix n seed x =
    number_of (width_of n) (rounds (height_of n) (width_of n) seed round_count (halves_of (width_of n) x))

-- the place of x in the permutation of n numbers by this seed: the first of mix x, mix (mix x), .. that is below n
unfoldable pub place : ℕ → ℕ → ℕ → ℕ
place n seed x = first_below (mix n seed) n (height_of n * width_of n) x

-- the number whose place is y
unfoldable pub unplace : ℕ → ℕ → ℕ → ℕ
unplace n seed y = inverse_below n (place n seed) y

-- y is the first of mix x, mix (mix x), .. that is below n, and is found by at most a evaluations of mix
abbrev pub IsFoundWithinHeight : ℕ → ℕ → ℕ → ℕ → Type 0
IsFoundWithinHeight n seed x y = (k : ℕ) × (k < height_of n) × IsFirstBelow (mix n seed) n x k y
