-- Weighted choice: of the numbers below the sum of the weights, each group takes as many as its weight says, those of group 0
-- first.
use Rattle.std.specs.Prelude.{ℕ, ◌+◌, ◌-◌, ◌<◌, ◌≤◌, List, [], ◌∷◌, nat_lt, length, sum, take, if◌then◌else◌}

-- the sum of the weights of the groups before g
abbrev pub weight_before : List ℕ → ℕ → ℕ
weight_before weights g = sum (take g weights)

-- the sum of the weights of groups 0 to g
abbrev pub prefix_sum : List ℕ → ℕ → ℕ
prefix_sum weights g = weight_before weights (g + 1)

-- x selects group g: it is the first one whose prefix sum exceeds x
pub record Selects (weights : List ℕ) (x g : ℕ) : Type 0 where
  pub within : g < length weights
  pub below : x < prefix_sum weights g
  pub first : (h : ℕ) → h < g → prefix_sum weights h ≤ x

-- the group that x selects: the first one if x is below its weight, else the one that the rest of x selects of the others
unfoldable pub selected : List ℕ → ℕ → ℕ
selected [] x = 0
selected (weight ∷ others) x = if nat_lt x weight then 0 else 1 + selected others (x - weight)
