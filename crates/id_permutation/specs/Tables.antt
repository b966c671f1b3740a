-- Tables of the round functions.
use Rattle.std.specs.Prelude.{ℕ, ◌+◌, ◌*◌, ◌%◌, List, ◌++◌, map}
use Rattle.std.specs.List.{range_with_len}
use Rattle.id_permutation.specs.Placement.{height_of, width_of, round_number}

-- how many entries the tables of n numbers have: a row's for each of the three even rounds, a column's for each of the three odd ones
abbrev pub table_entries : ℕ → ℕ
table_entries n = 3 * (height_of n + width_of n)

-- the values of the function of round i at the numbers below `count`, modulo a side
unfoldable pub round_values : ℕ → ℕ → ℕ → ℕ → List ℕ
round_values seed i modulus count = map (λ v. round_number seed i v % modulus) (range_with_len 0 count)

-- the tables of an even round, at each right half, and of the odd round after it, at each left half
unfoldable pub pair_values : ℕ → ℕ → ℕ → ℕ → List ℕ
pair_values a b seed pair = round_values seed (2 * pair) a b ++ round_values seed (2 * pair + 1) b a

-- the tables of the six rounds over a rectangle of height a and width b, one after the other
unfoldable pub tables_of : ℕ → ℕ → ℕ → List ℕ
tables_of a b seed = pair_values a b seed 0 ++ pair_values a b seed 1 ++ pair_values a b seed 2
