-- Prefix sums, and the weights that they are of.
use Rattle.std.specs.Prelude.{◌≡◌, ℕ, ◌+◌, ◌-◌, ◌<◌, ◌≤◌, ◌^◌, All, List, [], ◌∷◌, length, sum}

-- each prefix sum of the weights, with `before` added
unfoldable pub prefix_sums_from : ℕ → List ℕ → List ℕ
prefix_sums_from before [] = []
prefix_sums_from before (weight ∷ others) = (before + weight) ∷ prefix_sums_from (before + weight) others

-- each prefix sum of the weights
abbrev pub prefix_sums : List ℕ → List ℕ
prefix_sums weights = prefix_sums_from 0 weights

-- each number less the one before it, the first one less `before`
unfoldable pub differences_from : ℕ → List ℕ → List ℕ
differences_from before [] = []
differences_from before (number ∷ others) = (number - before) ∷ differences_from number others

-- the weights that have these prefix sums
abbrev pub weights_of : List ℕ → List ℕ
weights_of sums = differences_from 0 sums

-- the numbers are the prefix sums of some weights, each at least 1, of sum at most 2^40
pub record ArePrefixSums (sums : List ℕ) : Type 0 where
  pub some : 0 < length (weights_of sums)
  pub positive : All (λ weight. 1 ≤ weight) (weights_of sums)
  pub small : sum (weights_of sums) ≤ 2 ^ 40
  pub exact : sums ≡ prefix_sums (weights_of sums)
