-- What the limits of a spread say of its sum.
use Rattle.std.proofs.Common.{◌*◌, ◌≤◌, ℕ, List, length, sum, arith}
use Rattle.std.proofs.lemmas.List.Sums.{sum_by-le}
use Rattle.schema_facts.specs.References.{IsSpread}

-- the sum of a spread's weights is at most 64,000
pub spread_sum : (weights : List ℕ) → IsSpread weights → sum weights ≤ 64000
spread_sum weights spread =
    let most : sum weights ≤ length weights * 1000 = sum_by-le (λ (weight : ℕ). weight) 1000 weights (λ i d h. (spread.each i d h).weight_limit) in
    omega (arith, spread.group_limit)
