-- A loop that writes f x over each number x.
use Rattle.std.proofs.Common.{◌≡◌, ℕ, ◌+◌, ◌<◌, List, ◌++◌, length, get_or, map, take, drop, ◌∙◌, ap, arith}
use Rattle.std.proofs.lemmas.List.{get_or_default}
use Rattle.std.proofs.lemmas.List.Edits.{map_over_more}
use Rattle.std.proofs.Math.ListN.{set}

-- one number more
pub map_over_next : (f : ℕ → ℕ) (xs ys : List ℕ) (i v : ℕ) → i < length xs → length ys ≡ length xs → ys ≡ map f (take i xs) ++ drop i xs → v ≡ f (get_or ys i 0) → set ys i v ≡ map f (take (i + 1) xs) ++ drop (i + 1) xs
map_over_next f xs ys i v within same so_far value =
    ap (set ys i) value ∙ map_over_more f xs ys i (get_or ys i 0) within so_far (get_or_default ys i 0 _ (omega arith))
