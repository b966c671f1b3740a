-- What is kept unit by unit.
use Rattle.std.proofs.Common.{◌≡◌, ℕ, ◌+◌, ◌<◌, List, [], ◌∷◌, ◌++◌, Some, get_or, inl, inr, length, length-append, map, sum_by, ap, arith, subst, sym, ◌∙◌}
use Rattle.std.specs.Prelude.{slice_get}
use Rattle.std.specs.List.{range_with_len}
use Rattle.std.proofs.Math.Seq.{get_or-append_seam}
use Rattle.std.proofs.lemmas.Bool.{cases_lt}
use Rattle.std.proofs.lemmas.List.{get_or_append_left}
use Rattle.std.proofs.lemmas.List.Sums.{sum_by_push}
use Rattle.std.proofs.lemmas.Option.{get_or_from_slice_get}
use Rattle.std.proofs.lemmas.List.FromFn.{get_or-map-range_with_len, length-map-range_with_len, map-range_with_len_more}
use Rattle.life_intervals.specs.JobOrders.{IsKeptByUnit}

-- what there is of the units before one is kept
pub IsKeptByUnit-all : {X : Type 0} (of_unit : ℕ → X) (kept : List X) (n : ℕ) → kept ≡ map of_unit (range_with_len 0 n) → IsKeptByUnit of_unit kept
IsKeptByUnit-all of_unit kept n is = is ∙ ap (λ m. map of_unit (range_with_len 0 m)) (sym (ap length is ∙ length-map-range_with_len of_unit 0 n))

-- one unit more
pub kept-more : {X : Type 0} (of_unit : ℕ → X) (kept more : List X) (unit : ℕ) → kept ≡ map of_unit (range_with_len 0 unit) → more ≡ kept ++ of_unit unit ∷ [] →
    more ≡ map of_unit (range_with_len 0 (unit + 1))
kept-more of_unit kept more unit is pushed = pushed ∙ ap (λ xs. xs ++ of_unit unit ∷ []) is ∙ sym (map-range_with_len_more of_unit 0 unit unit (omega arith))

-- what is kept of a unit
pub kept-at : {X : Type 0} (of_unit : ℕ → X) (kept : List X) (unit : ℕ) (d : X) → IsKeptByUnit of_unit kept → unit < length kept → get_or kept unit d ≡ of_unit unit
kept-at of_unit kept unit d is within =
    ap (λ xs. get_or xs unit d) is ∙ get_or-map-range_with_len of_unit 0 (length kept) unit unit d within (omega arith)

pub kept-found : {X : Type 0} (of_unit : ℕ → X) (kept : List X) (unit : ℕ) (x : X) → IsKeptByUnit of_unit kept → unit < length kept → slice_get kept unit ≡ Some x → x ≡ of_unit unit
kept-found of_unit kept unit x is within found = sym (get_or_from_slice_get kept unit x x found) ∙ kept-at of_unit kept unit x is within

-- nothing is kept
pub IsKeptByUnit-none : {X : Type 0} (of_unit : ℕ → X) (kept : List X) → kept ≡ [] → IsKeptByUnit of_unit kept
IsKeptByUnit-none of_unit kept none = IsKeptByUnit-all of_unit kept 0 none

-- what holds of each item at its place, and of one more after them
pub each-more : {X : Type 0} (P : ℕ → X → Type 0) (xs more : List X) (x : X) (n : ℕ) → length xs ≡ n → more ≡ xs ++ x ∷ [] → ((k : ℕ) (d : X) → k < length xs → P k (get_or xs k d)) → P n x →
    (k : ℕ) (d : X) → k < length more → P k (get_or more k d)
each-more P xs more x n count is each last k d below =
    let long : length more ≡ n + 1 = ap length is ∙ length-append xs (x ∷ []) ∙ ap (λ m. m + 1) count in
    subst (λ ys. P k (get_or ys k d)) (sym is) (elim (cases_lt k (length xs)) [
      | inl before ↦ subst (P k) (sym (get_or_append_left xs (x ∷ []) d k before)) (each k d before)
      | inr after ↦
          let at : k ≡ length xs = omega (arith, after, below, long, count) in
          subst (P k) (sym (ap (λ m. get_or (xs ++ x ∷ []) m d) at ∙ get_or-append_seam xs x [] d)) (subst (λ m. P m x) (sym (at ∙ count)) last)
    ])

pub sum_by-more : {X : Type 0} (f : X → ℕ) (xs more : List X) (x : X) → more ≡ xs ++ x ∷ [] → sum_by f more ≡ sum_by f xs + f x
sum_by-more f xs more x is = ap (sum_by f) is ∙ sum_by_push f xs x
