-- Lists of ordinals: which they hold, in rising order, and in another order.
use Rattle.std.proofs.Common.{◌≡◌, ℕ, zero, suc, ◌+◌, ◌<◌, ◌≤◌, ◌==◌, Bool, true, false, not, ◌&&◌, ◌||◌, List, [], ◌∷◌, ◌++◌, length, filter, flat_map, get_or, take, drop, inl, inr, refl, ap, ap₂, arith, sym, ◌∙◌, eqb-true, eq-eqb, ne_eqb, le-leb, ltb-true, ltb-false, subst}
use Rattle.std.specs.Prelude.{All, nat_eq, nat_le, nat_lt}
use Rattle.std.proofs.Math.Bool.{and-false, and-true}
use Rattle.std.specs.List.{AllWithin, list_any, range_with_len, dedup, dedup_from}
use Rattle.std.specs.List.Sorted.{IsNonDecreasing, IsStrictlyIncreasing, IsPermutation}
use Rattle.std.proofs.lemmas.Bool.{cases_Bool, cases_eq, false≢true, lt-leb}
use Rattle.std.proofs.lemmas.List.Elements.{All-append, All-filter, All-nil}
use Rattle.std.proofs.lemmas.List.{get_or-drop}
use Rattle.std.proofs.lemmas.List.Filters.{FiltersInPlace}
use Rattle.std.proofs.lemmas.List.Folds.{list_any-append, list_any_at}
use Rattle.std.proofs.lemmas.List.Sorted.{IsPermutation-cons, IsPermutation-middle, IsPermutation-refl, IsPermutation-trans}
use Rattle.std.proofs.lemmas.Map.Views.{any-filter_same}
use Rattle.std.proofs.lemmas.List.Kept.{IsStrictlyIncreasing-filter}
use Rattle.std.proofs.lemmas.Map.Keys.{non_decreasing_from_sorted, sorted_from_strictly_increasing}
use Rattle.update_box.specs.Ordinals.{is_one_of, lies_within}

-- a test that doesn't pass
pub not-true : (test : Bool) → not test ≡ true → test ≡ false
not-true true is = cc
not-true false is = refl

-- a list without length is empty
pub none_of_none : (xs : List ℕ) → length xs ≡ 0 → xs ≡ []
none_of_none [] none = refl
none_of_none (x ∷ xs) none = absurd (omega (arith, none))

-- ---- in rising order

-- each is at least a number, below another, and above the one before it
abbrev pub RisesWithin : ℕ → ℕ → List ℕ → Type 0
RisesWithin low end [] = Unit {0}
RisesWithin low end (x ∷ xs) = (low ≤ x) × (x < end) × RisesWithin (x + 1) end xs

rises-from : (low end : ℕ) (xs : List ℕ) → IsStrictlyIncreasing xs → All (λ x. x < end) xs → (0 < length xs → low ≤ get_or xs 0 0) → RisesWithin low end xs
rises-from low end [] rising below first = tt
rises-from low end (x ∷ []) rising below first = (first (omega arith), below 0 0 (omega arith), tt)
rises-from low end (x ∷ y ∷ ys) rising below first = (
  first (omega arith),
  below 0 0 (omega arith),
  rises-from (x + 1) end (y ∷ ys) (λ k inside.
      let next : suc k + 1 ≡ suc (k + 1) = omega arith in
      subst (λ (j : ℕ). get_or (x ∷ y ∷ ys) (suc k) 0 < get_or (x ∷ y ∷ ys) j 0) next (rising (suc k) (omega (arith, inside)))) (λ k d inside. below (suc k) d (omega (arith, inside)))
      (λ some. let next : x < y = rising 0 (omega arith) in omega (arith, next)),
)

-- what is below the first isn't one of them
pub one_of-below : (x low end : ℕ) (xs : List ℕ) → RisesWithin low end xs → x < low → is_one_of xs x ≡ false
one_of-below x low end [] rises below = refl
one_of-below x low end (y ∷ ys) rises below =
    rw (ne_eqb y x (λ same. omega (arith, same, rises.0, below))) (one_of-below x (y + 1) end ys rises.2 (omega (arith, rises.0, below)))

-- such a list is what passes a test of a range, where the test tells which it holds
rises-filter : (p : ℕ → Bool) (low n end : ℕ) (xs : List ℕ) → low + n ≡ end → RisesWithin low end xs → ((x : ℕ) → low ≤ x → x < end → is_one_of xs x ≡ p x) → xs ≡ filter p (range_with_len low n)
rises-filter p low zero end [] to rises same = refl
rises-filter p low zero end (x ∷ xs) to rises same = absurd (omega (arith, to, rises.0, rises.1))
rises-filter p low (suc n) end [] to rises same =
    let fails : p low ≡ false = sym (same low (omega arith) (omega (arith, to))) in
    rw fails (rises-filter p (low + 1) n end [] (omega (arith, to)) tt (λ x from below. same x (omega (arith, from)) below))
rises-filter p low (suc n) end (x ∷ xs) to rises same = elim (cases_eq x low) [
  | inl first ↦
      let passes : p low ≡ true = sym (same low (omega arith) (omega (arith, to))) ∙ ap (λ (b : Bool). b || is_one_of xs low) (eq-eqb x low first) in
      let rest : RisesWithin (low + 1) end xs = let P : ℕ → Type 0 = λ y. RisesWithin (y + 1) end xs in subst P first rises.2 in
      rw passes
      (ap₂ (λ (y : ℕ) (ys : List ℕ). y ∷ ys) first
      (rises-filter p (low + 1) n end xs (omega (arith, to)) rest (λ y from below.
      ap (λ (b : Bool). b || is_one_of xs y) (sym (ne_eqb x y (λ at. omega (arith, at, first, from)))) ∙ same y (omega (arith, from)) below)))
  | inr later ↦
      let fails : p low ≡ false =
      sym (same low (omega arith) (omega (arith, to))) ∙ one_of-below low (low + 1) end (x ∷ xs) (omega (arith, rises.0, later), rises.1, rises.2) (omega arith) in
      rw fails
      (rises-filter p (low + 1) n end (x ∷ xs) (omega (arith, to)) (omega (arith, rises.0, later), rises.1, rises.2)
      (λ y from below. same y (omega (arith, from)) below))
]

pub rising-filter : (p : ℕ → Bool) (n : ℕ) (xs : List ℕ) → IsStrictlyIncreasing xs → All (λ x. x < n) xs → ((x : ℕ) → x < n → is_one_of xs x ≡ p x) → xs ≡ filter p (range_with_len 0 n)
rising-filter p n xs rising below same =
    rises-filter p 0 n n xs (omega arith) (rises-from 0 n xs rising below (λ some. omega arith)) (λ x from inside. same x inside)

-- ---- which a list holds

-- after the same have been left out that stand beside each other
one_of-dedup_from : (x k : ℕ) (xs : List ℕ) → is_one_of (dedup_from nat_eq k xs) x ≡ (k == x || is_one_of xs x)
one_of-dedup_from x k [] = refl
one_of-dedup_from x k (y ∷ ys) = elim (cases_Bool (y == k)) [
  | inl same ↦ rw same (one_of-dedup_from x k ys ∙ once (k == x) (y == x) (is_one_of ys x) (ap (λ (z : ℕ). z == x) (eqb-true y k same)))
  | inr apart ↦ rw apart (ap (λ (b : Bool). k == x || b) (one_of-dedup_from x y ys))
]
  where
    once : (a b c : Bool) → b ≡ a → (a || c) ≡ (a || (b || c))
    once true b c same = refl
    once false true c same = cc
    once false false c same = refl

pub one_of-dedup : (x : ℕ) (xs : List ℕ) → is_one_of (dedup nat_eq xs) x ≡ is_one_of xs x
one_of-dedup x [] = refl
one_of-dedup x (y ∷ ys) = one_of-dedup_from x y ys

-- of those that pass a test
pub one_of-filter : (p : ℕ → Bool) (x : ℕ) (xs : List ℕ) → is_one_of (filter p xs) x ≡ (p x && is_one_of xs x)
one_of-filter p x xs = any-filter_same (λ one. one == x) p (p x) (λ k at. ap p (eqb-true k x at)) xs

-- a range holds what lies in it
one_of-range_in : (x low n : ℕ) → low ≤ x → x < low + n → is_one_of (range_with_len low n) x ≡ true
one_of-range_in x low zero from below = absurd (omega (arith, from, below))
one_of-range_in x low (suc n) from below = elim (cases_eq low x) [
  | inl here ↦ rw (eq-eqb low x here) refl
  | inr later ↦ rw (ne_eqb low x later) (one_of-range_in x (low + 1) n (omega (arith, from, later)) (omega (arith, below)))
]

pub one_of-range : (p : ℕ → Bool) (n x : ℕ) → x < n → is_one_of (filter p (range_with_len 0 n)) x ≡ p x
one_of-range p n x below = one_of-filter p x (range_with_len 0 n) ∙ ap (λ (b : Bool). p x && b) (one_of-range_in x 0 n (omega arith) (omega (arith, below))) ∙ and-true (p x)

-- each of the numbers of a range that pass lies in it
pub below-range : (p : ℕ → Bool) (n : ℕ) → All (λ x. x < n) (filter p (range_with_len 0 n))
below-range p n = All-filter p (λ x. x < n) (range_with_len 0 n) (λ k d inside. omega (arith, in_range k d 0 n inside))
  where
    in_range : (k d low n : ℕ) → k < length (range_with_len low n) → get_or (range_with_len low n) k d < low + n
    in_range k d low zero inside = absurd (omega (arith, inside))
    in_range zero d low (suc n) inside = omega arith
    in_range (suc k) d low (suc n) inside = omega (arith, in_range k d (low + 1) n (omega (arith, inside)))

-- the pieces of a list hold what one of them holds
pub one_of-pieces : {X : Type 0} (f : X → List ℕ) (x : ℕ) (xs : List X) → is_one_of (flat_map f xs) x ≡ list_any (λ one. is_one_of (f one) x) xs
one_of-pieces f x [] = refl
one_of-pieces f x (y ∷ ys) = list_any-append (λ one. one == x) (f y) (flat_map f ys) ∙ ap (λ (b : Bool). is_one_of (f y) x || b) (one_of-pieces f x ys)

-- two tests of a list that agree
pub list_any-same : {X : Type 0} (p q : X → Bool) → ((x : X) → p x ≡ q x) → (xs : List X) → list_any p xs ≡ list_any q xs
list_any-same p q same [] = refl
list_any-same p q same (x ∷ xs) = ap₂ (λ (a b : Bool). a || b) (same x) (list_any-same p q same xs)

-- ---- in another order

-- what passes the one or the other of two tests, of which nothing passes both
pub IsPermutation-filters : {X : Type 0} (p q : X → Bool) → ((x : X) → p x ≡ true → q x ≡ false) → (xs : List X) → IsPermutation (filter p xs ++ filter q xs) (filter (λ x. p x || q x) xs)
IsPermutation-filters p q apart [] = IsPermutation-refl []
IsPermutation-filters p q apart (x ∷ xs) = elim (cases_Bool (p x)) [
  | inl passes ↦ rw (passes, apart x passes) (IsPermutation-cons x (filter p xs ++ filter q xs) (filter (λ x. p x || q x) xs) (IsPermutation-filters p q apart xs))
  | inr fails ↦ elim (cases_Bool (q x)) [
    | inl other ↦
        rw (fails, other)
        (IsPermutation-trans (filter p xs ++ x ∷ filter q xs) (x ∷ (filter p xs ++ filter q xs)) (x ∷ filter (λ x. p x || q x) xs) (IsPermutation-middle (filter p xs) x (filter q xs))
        (IsPermutation-cons x (filter p xs ++ filter q xs) (filter (λ x. p x || q x) xs) (IsPermutation-filters p q apart xs)))
    | inr none ↦ rw (fails, none) (IsPermutation-filters p q apart xs)
  ]
]

-- no more pass a test than pass one that follows from it
pub length-filter_le : {X : Type 0} (p q : X → Bool) → ((x : X) → p x ≡ true → q x ≡ true) → (xs : List X) → length (filter p xs) ≤ length (filter q xs)
length-filter_le p q follows [] = omega arith
length-filter_le p q follows (x ∷ xs) = elim (cases_Bool (p x)) [
  | inl passes ↦ rw (passes, follows x passes) (omega (arith, length-filter_le p q follows xs))
  | inr fails ↦ elim (cases_Bool (q x)) [
    | inl other ↦ rw (fails, other) (omega (arith, length-filter_le p q follows xs))
    | inr none ↦ rw (fails, none) (length-filter_le p q follows xs)
  ]
]

-- ---- from one number up to another

-- of numbers from the first on those before the end are kept
pub filter-low : (first end until : ℕ) (xs : List ℕ) → AllWithin (λ x. nat_lt x end ≡ true) xs 0 until → AllWithin (λ x. nat_lt x end ≡ false) xs until (length xs) →
    AllWithin (λ x. nat_lt x first ≡ false) xs 0 (length xs) → take until xs ≡ filter (lies_within first end) xs
filter-low first end zero [] before past from = refl
filter-low first end (suc until) [] before past from = refl
filter-low first end zero (x ∷ xs) before past from =
    let late : nat_lt x end ≡ false = past 0 0 (omega arith) (omega arith) in
    rw (late, and-false (nat_le first x))
    (filter-low first end 0 xs (λ k d low high. absurd (omega (arith, high))) (λ k d low inside. past (suc k) d (omega arith) (omega (arith, inside))) (λ k d low inside. from (suc k) d (omega arith) (omega (arith, inside))))
filter-low first end (suc until) (x ∷ xs) before past from =
    let early : nat_lt x end ≡ true = before 0 0 (omega arith) (omega arith) in
    let begun : nat_le first x ≡ true = le-leb first x (ltb-false x first (from 0 0 (omega arith) (omega arith))) in
    rw (begun, early)
    (ap (λ (ys : List ℕ). x ∷ ys)
    (filter-low first end until xs (λ k d low high. before (suc k) d (omega arith) (omega (arith, high))) (λ k d low inside. past (suc k) d (omega (arith, low)) (omega (arith, inside)))
    (λ k d low inside. from (suc k) d (omega arith) (omega (arith, inside)))))

-- and none before the first
pub filter-high : (first end from : ℕ) (xs : List ℕ) → AllWithin (λ x. nat_lt x first ≡ true) xs 0 from → filter (lies_within first end) (drop from xs) ≡ filter (lies_within first end) xs
filter-high first end zero xs before = refl
filter-high first end (suc from) [] before = refl
filter-high first end (suc from) (x ∷ xs) before =
    let low : nat_le first x ≡ false = lt-leb first x (ltb-true x first (before 0 0 (omega arith) (omega arith))) in
    rw low (filter-high first end from xs (λ k d low high. before (suc k) d (omega arith) (omega (arith, high))))

-- numbers that rise don't fall
pub rising-not_falling : (xs : List ℕ) → IsStrictlyIncreasing xs → IsNonDecreasing xs
rising-not_falling xs rising = non_decreasing_from_sorted xs (sorted_from_strictly_increasing xs rising)

-- what passes a test of a range rises
pub rising-range : (p : ℕ → Bool) (n : ℕ) → IsStrictlyIncreasing (filter p (range_with_len 0 n))
rising-range p n = IsStrictlyIncreasing-filter p (range_with_len 0 n) (range-rises 0 n)
  where
    range-rises : (low n : ℕ) → IsStrictlyIncreasing (range_with_len low n)
    range-rises low zero = λ k inside. absurd (omega (arith, inside))
    range-rises low (suc n) = λ k inside. omega (arith, at low (suc n) k (omega (arith, inside)), at low (suc n) (k + 1) inside)
      where
        at : (low n k : ℕ) → k < length (range_with_len low n) → get_or (range_with_len low n) k 0 ≡ low + k
        at low zero k inside = absurd (omega (arith, inside))
        at low (suc n) zero inside = omega arith
        at low (suc n) (suc k) inside = omega (arith, at (low + 1) n k (omega (arith, inside)))

-- so does what passes another of these
pub rises-twice : (q p : ℕ → Bool) (n : ℕ) → RisesWithin 0 n (filter q (filter p (range_with_len 0 n)))
rises-twice q p n =
    rises-from 0 n (filter q (filter p (range_with_len 0 n))) (IsStrictlyIncreasing-filter q (filter p (range_with_len 0 n)) (rising-range p n))
    (All-filter q (λ x. x < n) (filter p (range_with_len 0 n)) (below-range p n)) (λ some. omega arith)

-- ---- in place

-- what a filter in place has not come to is as it was
pub kept-item : {p : ℕ → Bool} (xs ys : List ℕ) (k i d : ℕ) → FiltersInPlace p xs ys k i → get_or ys i d ≡ get_or xs i d
kept-item xs ys k i d kept =
    let at : i + 0 ≡ i = omega arith in
    ap (λ (j : ℕ). get_or ys j d) (sym at) ∙ sym (get_or-drop i ys 0 d) ∙ ap (λ (zs : List ℕ). get_or zs 0 d) kept.rest ∙ get_or-drop i xs 0 d ∙ ap (λ (j : ℕ). get_or xs j d) at

-- ---- what holds of all

-- of each that is one of them
pub one_of-all : (P : ℕ → Type 0) (xs : List ℕ) → All P xs → (x : ℕ) → is_one_of xs x ≡ true → P x
one_of-all P [] all x at = absurd (false≢true at)
one_of-all P (y ∷ ys) all x at = elim (cases_eq y x) [
  | inl same ↦ subst P same (all 0 y (omega arith))
  | inr apart ↦ one_of-all P ys (λ k d inside. all (suc k) d (omega (arith, inside))) x (ap (λ (b : Bool). b || is_one_of ys x) (sym (ne_eqb y x apart)) ∙ at)
]

pub all-one_of : (P : ℕ → Type 0) (xs : List ℕ) → ((x : ℕ) → is_one_of xs x ≡ true → P x) → All P xs
all-one_of P xs each k d inside = each (get_or xs k d) (list_any_at (λ y. y == get_or xs k d) xs k d inside (eq-eqb (get_or xs k d) (get_or xs k d) refl))

-- of the pieces of a list
pub all-pieces : {X : Type 0} (P : ℕ → Type 0) (f : X → List ℕ) → ((x : X) → All P (f x)) → (xs : List X) → All P (flat_map f xs)
all-pieces P f each [] = All-nil P
all-pieces P f each (x ∷ xs) = All-append P (f x) (flat_map f xs) (each x) (all-pieces P f each xs)
