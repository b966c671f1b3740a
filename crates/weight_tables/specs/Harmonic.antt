-- Harmonic weights: group i weighs the (i + 1)th part of the first group, or that of a power of i + 1.
use Rattle.std.specs.Prelude.{ℕ, ◌+◌, ◌/◌, ◌^◌, List, map, max}
use Rattle.std.specs.List.{range_with_len}

-- the weight of group i, of which the first one's is 10^9: the power of i + 1 divides it, rounded down, and at least 1 is left
unfoldable pub harmonic_weight : ℕ → ℕ → ℕ
harmonic_weight power i = max 1 (10 ^ 9 / (i + 1) ^ power)

-- the harmonic weights of so many groups
unfoldable pub harmonic_weights : ℕ → ℕ → List ℕ
harmonic_weights size power = map (harmonic_weight power) (range_with_len 0 size)
