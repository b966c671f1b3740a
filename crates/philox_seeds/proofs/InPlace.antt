-- Loops that write at each place of a list in turn.
use Rattle.std.proofs.Common.{◌≡◌, ℕ, ◌+◌, ◌<◌, ◌≤◌, ◌++◌, List, length, get_or, map, take, drop, slice_set, refl, ap, sym, ◌∙◌, arith}
use Rattle.std.proofs.lemmas.List.{get_or_default}
use Rattle.std.proofs.lemmas.List.Edits.{map_over_more}
use Rattle.std.proofs.lemmas.List.FromFn.{length-map-range_with_len, get_or-map-range_with_len}
use Rattle.std.proofs.lemmas.Grind.{same_number_lists}
use Rattle.std.specs.List.{range_with_len}

-- f of the number at place i, written over it
pub map_over_next : (f : ℕ → ℕ) (xs ys : List ℕ) (i y : ℕ) → i < length xs → length ys ≡ length xs → ys ≡ map f (take i xs) ++ drop i xs → y ≡ f (get_or ys i 0) → slice_set ys i y ≡ map f (take (i + 1) xs) ++ drop (i + 1) xs
map_over_next f xs ys i y within same so_far value =
    ap (slice_set ys i) value ∙ map_over_more f xs ys i (get_or ys i 0) within so_far (get_or_default ys i 0 _ (omega arith))

-- f of one number more at each place, once all of them are written
pub map_range_written : (f : ℕ → ℕ) (xs : List ℕ) (first n i : ℕ) → length xs ≡ n → n ≤ i → ((k : ℕ) → k < i → get_or xs k 0 ≡ f (first + k)) → xs ≡ map f (range_with_len first n)
map_range_written f xs first n i long all each =
    same_number_lists xs _ (long ∙ sym (length-map-range_with_len f first n))
    (λ k within. each k (omega arith) ∙ sym (get_or-map-range_with_len f first n k (first + k) 0 (omega arith) refl))
