-- Lists that have the same numbers, in another order: what passes a test of the numbers of a range, found by their places.
use Rattle.std.proofs.Common.{◌≡◌, ℕ, zero, suc, ◌+◌, ◌<◌, ◌≤◌, Bool, true, false, cond, List, [], ◌∷◌, ◌++◌, count_by, eq-eqb, filter, inl, inr, map, refl, ap, ap₂, arith, subst, sym, ◌∙◌}
use Rattle.std.specs.Prelude.{◌==◌}
use Rattle.std.specs.List.{flat_map, range_with_len}
use Rattle.std.specs.List.Sorted.{IsPermutation}
use Rattle.std.proofs.lemmas.Bool.{cases_Bool, cases_lt, eqb-true, true≢false}
use Rattle.std.proofs.lemmas.List.{map-append}
use Rattle.std.proofs.lemmas.List.Sorted.{IsPermutation-append, IsPermutation-cons, IsPermutation-map, IsPermutation-middle, IsPermutation-refl, IsPermutation-sym, IsPermutation-trans, sum_by-IsPermutation}
use Rattle.std.proofs.lemmas.List.Sums.{sum_by-append, sum_by-cons}
use Rattle.std.proofs.lemmas.Simd.{map-map}
use Rattle.id_permutation.specs.Walk.{AreInversesBelow}
use Rattle.life_intervals.proofs.Ranges.{map-range_with_len_same}

map-itself : (xs : List ℕ) → map (λ x. x) xs ≡ xs
map-itself [] = refl
map-itself (x ∷ xs) = ap (λ (ys : List ℕ). x ∷ ys) (map-itself xs)

-- ---- how often a list has a number

abbrev times : ℕ → List ℕ → ℕ
times z xs = count_by (λ y. y == z) xs

abbrev once_if : Bool → ℕ
once_if passes = cond passes 1 0

times-cons : (z x : ℕ) (xs : List ℕ) → times z (x ∷ xs) ≡ once_if (x == z) + times z xs
times-cons z x xs = sum_by-cons (λ y. cond {A = ℕ} (y == z) 1 0) x xs

times-append : (z : ℕ) (xs ys : List ℕ) → times z (xs ++ ys) ≡ times z xs + times z ys
times-append z xs ys = sum_by-append (λ y. cond {A = ℕ} (y == z) 1 0) xs ys

once_if-itself : (x : ℕ) → once_if (x == x) ≡ 1
once_if-itself x = ap once_if (eq-eqb x x refl)

-- a list that has a number has it between two parts
record Parts (xs : List ℕ) (x : ℕ) : Type 0 where
  front : List ℕ
  back : List ℕ
  is : xs ≡ front ++ x ∷ back

parts_of : (xs : List ℕ) (x : ℕ) → 1 ≤ times x xs → Parts xs x
parts_of [] x some = absurd (omega (arith, some))
parts_of (y ∷ ys) x some = elim (cases_Bool (y == x)) [
  | inl same ↦ record { front = []; back = ys; is = ap (λ (z : ℕ). z ∷ ys) (eqb-true y x same) }
  | inr other ↦
      let rest = parts_of ys x (omega (arith, some, times-cons x y ys, ap once_if other)) in
      record { front = y ∷ rest.front; back = rest.back; is = ap (λ (zs : List ℕ). y ∷ zs) rest.is }
]

-- two lists that have each number as often are one another's permutations
pub IsPermutation-from_times : (xs ys : List ℕ) → ((z : ℕ) → times z xs ≡ times z ys) → IsPermutation xs ys
IsPermutation-from_times [] [] same = IsPermutation-refl []
IsPermutation-from_times [] (y ∷ ys) same = absurd (omega (arith, same y, times-cons y y ys, once_if-itself y))
IsPermutation-from_times (x ∷ xs) ys same =
    let parts = parts_of ys x (omega (arith, same x, times-cons x x xs, once_if-itself x)) in
    let rest : IsPermutation xs (parts.front ++ parts.back) = IsPermutation-from_times xs (parts.front ++ parts.back) (λ z.
    omega (
      arith,
      same z,
      times-cons z x xs,
      ap (times z) parts.is,
      times-append z parts.front (x ∷ parts.back),
      times-cons z x parts.back,
      times-append z parts.front parts.back,
    )) in
    subst (IsPermutation (x ∷ xs)) (sym parts.is)
    (IsPermutation-trans (x ∷ xs) (x ∷ (parts.front ++ parts.back)) (parts.front ++ x ∷ parts.back) (IsPermutation-cons x xs (parts.front ++ parts.back) rest)
    (IsPermutation-sym (parts.front ++ x ∷ parts.back) (x ∷ (parts.front ++ parts.back)) (IsPermutation-middle parts.front x parts.back)))

-- ---- a test

times-filter : (p : ℕ → Bool) (z : ℕ) (xs : List ℕ) → times z (filter p xs) ≡ cond (p z) (times z xs) 0
times-filter p z [] = elim (cases_Bool (p z)) [
  | inl passes ↦ rw passes refl
  | inr fails ↦ rw fails refl
]
times-filter p z (x ∷ xs) =
    let rest : times z (filter p xs) ≡ cond (p z) (times z xs) 0 = times-filter p z xs in
    elim (cases_Bool (x == z)) [
      | inl same ↦ elim (cases_Bool (p z)) [
        | inl passes ↦
            let here : p x ≡ true = ap p (eqb-true x z same) ∙ passes in
            let then : times z (filter p xs) ≡ times z xs = rest ∙ ap (λ (b : Bool). cond b (times z xs) 0) passes in
            rw (here, passes) (omega (arith, then, times-cons z x (filter p xs), times-cons z x xs))
        | inr fails ↦
            let here : p x ≡ false = ap p (eqb-true x z same) ∙ fails in
            rw (here, fails) (rest ∙ ap (λ (b : Bool). cond b (times z xs) 0) fails)
      ]
      | inr other ↦
          let none : once_if (x == z) ≡ 0 = ap once_if other in
          let more : times z (x ∷ xs) ≡ times z xs = omega (arith, none, times-cons z x xs) in
          elim (cases_Bool (p x)) [
            | inl passes ↦ rw passes (omega (arith, none, times-cons z x (filter p xs)) ∙ rest ∙ ap (λ (n : ℕ). cond (p z) n 0) (sym more))
            | inr fails ↦ rw fails (rest ∙ ap (λ (n : ℕ). cond (p z) n 0) (sym more))
          ]
    ]

-- what passes of a permutation
pub IsPermutation-filter : (p : ℕ → Bool) (xs ys : List ℕ) → IsPermutation xs ys → IsPermutation (filter p xs) (filter p ys)
IsPermutation-filter p xs ys same = IsPermutation-from_times (filter p xs) (filter p ys) (λ z.
    times-filter p z xs ∙ ap (λ (n : ℕ). cond (p z) n 0) (sym (sum_by-IsPermutation (λ y. cond {A = ℕ} (y == z) 1 0) xs ys same)) ∙ sym (times-filter p z ys))

-- ---- ranges

count-none : (p : ℕ → Bool) (a n : ℕ) → ((i : ℕ) → a ≤ i → i < a + n → p i ≡ false) → count_by p (range_with_len a n) ≡ 0
count-none p a zero none = refl
count-none p a (suc n) none =
    let here : once_if (p a) ≡ 0 = ap once_if (none a (omega arith) (omega arith)) in
    let rest : count_by p (range_with_len (a + 1) n) ≡ 0 = count-none p (a + 1) n (λ i low high. none i (omega (arith, low)) (omega (arith, high))) in
    omega (arith, here, rest, sum_by-cons (λ y. cond {A = ℕ} (p y) 1 0) a (range_with_len (a + 1) n))

count-one : (p : ℕ → Bool) (a n at : ℕ) → a ≤ at → at < a + n → p at ≡ true → ((i : ℕ) → p i ≡ true → a ≤ i → i < a + n → i ≡ at) → count_by p (range_with_len a n) ≡ 1
count-one p a zero at low high passes only = absurd (omega (arith, low, high))
count-one p a (suc n) at low high passes only =
    let parts = sum_by-cons (λ y. cond {A = ℕ} (p y) 1 0) a (range_with_len (a + 1) n) in
    elim (cases_Bool (p a)) [
      | inl first ↦
          let here : a ≡ at = only a first (omega arith) (omega arith) in
          let rest : count_by p (range_with_len (a + 1) n) ≡ 0 = count-none p (a + 1) n (λ i above below.
          elim (cases_Bool (p i)) [
            | inl other ↦ absurd (omega (arith, here, above, only i other (omega (arith, above)) (omega (arith, below))))
            | inr fails ↦ fails
          ]) in
          omega (arith, parts, rest, ap once_if first)
      | inr later ↦
          let past : a < at = elim (cases_lt a at) [
            | inl before ↦ before
            | inr after ↦
                let here : a ≡ at = omega (arith, after, low) in
                absurd (true≢false (sym passes ∙ ap p (sym here) ∙ later))
          ] in
          let rest : count_by p (range_with_len (a + 1) n) ≡ 1 = count-one p (a + 1) n at (omega (arith, past)) (omega (arith, high)) passes (λ i is above below. only i is (omega (arith, above)) (omega (arith, below))) in
          omega (arith, parts, rest, ap once_if later)
    ]

times-map : (g : ℕ → ℕ) (z : ℕ) (xs : List ℕ) → times z (map g xs) ≡ count_by (λ i. g i == z) xs
times-map g z [] = refl
times-map g z (x ∷ xs) = omega (arith, times-map g z xs, times-cons z (g x) (map g xs), sum_by-cons (λ i. cond {A = ℕ} (g i == z) 1 0) x xs)

pub differs : (x y : ℕ) → (x ≡ y → ⊥) → (x == y) ≡ false
differs x y apart = elim (cases_Bool (x == y)) [
  | inl same ↦ absurd (apart (eqb-true x y same))
  | inr other ↦ other
]

-- two tests that pass together
pub tests-same : (x y a b : ℕ) → (x ≡ y → a ≡ b) → (a ≡ b → x ≡ y) → (x == y) ≡ (a == b)
tests-same x y a b there back = elim (cases_Bool (x == y)) [
  | inl same ↦ same ∙ sym (eq-eqb a b (there (eqb-true x y same)))
  | inr other ↦ other ∙ sym (differs a b (λ same. absurd (true≢false (sym (eq-eqb x y (back same)) ∙ other))))
]

times-undone : (n : ℕ) (f g : ℕ → ℕ) → AreInversesBelow n f g → (z : ℕ) → times z (range_with_len 0 n) ≡ times z (map g (range_with_len 0 n))
times-undone n f g inverse z = elim (cases_lt z n) [
  | inl below ↦
      count-one (λ y. y == z) 0 n z (omega arith) (omega (arith, below)) (eq-eqb z z refl) (λ i is low high. eqb-true i z is)
      ∙ sym (count-one (λ i. g i == z) 0 n (f z) (omega arith) (omega (arith, inverse.within z below)) (eq-eqb (g (f z)) z (inverse.undone z below)) (λ i is low high.
      sym (inverse.redone i (omega (arith, high))) ∙ ap f (eqb-true (g i) z is)))
      ∙ sym (times-map g z (range_with_len 0 n))
  | inr past ↦
      count-none (λ y. y == z) 0 n (λ i low high. differs i z (λ is. absurd (omega (arith, is, high, past))))
      ∙ sym (count-none (λ i. g i == z) 0 n (λ i low high. differs (g i) z (λ is. absurd (omega (arith, is, inverse.within_back i (omega (arith, high)), past)))))
      ∙ sym (times-map g z (range_with_len 0 n))
]

-- the numbers that a map gives which another undoes are the range's, in another order
pub IsPermutation-undone : (n : ℕ) (f g : ℕ → ℕ) → AreInversesBelow n f g → IsPermutation (range_with_len 0 n) (map g (range_with_len 0 n))
IsPermutation-undone n f g inverse = IsPermutation-from_times (range_with_len 0 n) (map g (range_with_len 0 n)) (times-undone n f g inverse)

-- ---- what passes a test, found by the places of what passes

pub filter-map : {X Y : Type 0} (p : Y → Bool) (f : X → Y) (xs : List X) → filter p (map f xs) ≡ map f (filter (λ x. p (f x)) xs)
filter-map p f [] = refl
filter-map p f (x ∷ xs) = elim (cases_Bool (p (f x))) [
  | inl passes ↦ rw passes (ap (λ (ys : List _). f x ∷ ys) (filter-map p f xs))
  | inr fails ↦ rw fails (filter-map p f xs)
]

-- two tests that agree on a range
pub filter-range_same : (p q : ℕ → Bool) (a n : ℕ) → ((i : ℕ) → a ≤ i → i < a + n → p i ≡ q i) → filter p (range_with_len a n) ≡ filter q (range_with_len a n)
filter-range_same p q a zero same = refl
filter-range_same p q a (suc n) same =
    let here : p a ≡ q a = same a (omega arith) (omega arith) in
    let rest : filter p (range_with_len (a + 1) n) ≡ filter q (range_with_len (a + 1) n) = filter-range_same p q (a + 1) n (λ i low high. same i (omega (arith, low)) (omega (arith, high))) in
    ap₂ (λ (b : Bool) (ys : List ℕ). cond b (a ∷ ys) ys) here rest

-- the numbers of a range from a first one on that pass, by the places that pass
pub IsPermutation-by_places : (first n : ℕ) (place number : ℕ → ℕ) → AreInversesBelow n place number → (p q : ℕ → Bool) → ((i : ℕ) → i < n → p (first + i) ≡ q (place i)) →
    IsPermutation (filter p (range_with_len first n)) (map (λ y. first + number y) (filter q (range_with_len 0 n)))
IsPermutation-by_places first n place number inverse p q same =
    let all : List ℕ = range_with_len 0 n in
    let row : ℕ → ℕ = λ y. first + number y in
    let shifted : map (λ i. first + i) all ≡ range_with_len first n =
    map-range_with_len_same (λ i. first + i) (λ i. i) 0 first n (λ k below. omega arith) ∙ map-itself (range_with_len first n) in
    let moved : map (λ i. first + i) (map number all) ≡ map row all = map-map (λ i. first + i) number all in
    let whole : IsPermutation (range_with_len first n) (map row all) =
    subst (λ (xs : List ℕ). IsPermutation xs (map row all)) shifted
    (subst (IsPermutation (map (λ i. first + i) all)) moved (IsPermutation-map (λ i. first + i) all (map number all) (IsPermutation-undone n place number inverse))) in
    let passing : filter (λ y. p (row y)) all ≡ filter q all = filter-range_same (λ y. p (row y)) q 0 n (λ y low high.
    same (number y) (inverse.within_back y (omega (arith, high))) ∙ ap q (inverse.redone y (omega (arith, high)))) in
    subst (IsPermutation (filter p (range_with_len first n))) (filter-map p row all ∙ ap (map row) passing)
    (IsPermutation-filter p (range_with_len first n) (map row all) whole)

-- ---- each of some lists

pub map-flat_map : {W X Y : Type 0} (f : X → Y) (g : W → List X) (ws : List W) → map f (flat_map g ws) ≡ flat_map (λ w. map f (g w)) ws
map-flat_map f g [] = refl
map-flat_map f g (w ∷ ws) = map-append f (g w) (flat_map g ws) ∙ ap (λ (ys : List _). map f (g w) ++ ys) (map-flat_map f g ws)

pub IsPermutation-flat_map : {W X : Type 0} (f g : W → List X) → ((w : W) → IsPermutation (f w) (g w)) → (ws : List W) → IsPermutation (flat_map f ws) (flat_map g ws)
IsPermutation-flat_map f g same [] = IsPermutation-refl []
IsPermutation-flat_map f g same (w ∷ ws) = IsPermutation-append (f w) (g w) (flat_map f ws) (flat_map g ws) (same w) (IsPermutation-flat_map f g same ws)
