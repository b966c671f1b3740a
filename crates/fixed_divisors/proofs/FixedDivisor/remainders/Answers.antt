use Rattle.std.proofs.Common.{◌≡◌, ℕ, ◌%◌, ◌+◌, ◌<◌, ◌++◌, List, length, get_or, map, take, drop, slice_set, ap, ◌∙◌, arith}
use Rattle.std.proofs.lemmas.List.{get_or_default}
use Rattle.std.proofs.lemmas.List.Edits.{map_over_more}
use Rattle.fixed_divisors.proofs.FixedDivisor.remainders.Goals as goal

-- what is written at index i is the function's value of what stood there
map_over_next : (f : ℕ → ℕ) (xs ys : List ℕ) (i y : ℕ) → i < length xs → length ys ≡ length xs → ys ≡ map f (take i xs) ++ drop i xs → y ≡ f (get_or ys i 0) → slice_set ys i y ≡ map f (take (i + 1) xs) ++ drop (i + 1) xs
map_over_next f xs ys i y within same so_far value =
    ap (slice_set ys i) value ∙ map_over_more f xs ys i (get_or ys i 0) within so_far (get_or_default ys i 0 _ (omega arith))

pub loop-number-preserved : goal.loop-number-preserved
loop-number-preserved c =
    map_over_next (λ x. x % c.args.self.now) _ _ _ _ (omega arith) c.loop-number.auto.numbers c.loop-number.invariant c.remainder.ensures.exact
