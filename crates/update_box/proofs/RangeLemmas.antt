-- What passes a test, of a range of numbers that grows, and of one that is read twice, and what comes of it; and sums over ranges.
use Rattle.std.proofs.Common.{◌≡◌, ℕ, zero, suc, ◌+◌, ◌-◌, ◌<◌, ◌≤◌, Bool, true, false, ◌&&◌, List, [], ◌∷◌, ◌++◌, count_by, filter, flat_map, map, sum_by, Option, Some, None, inl, inr, zero-add, refl, ap, ap₂, arith, sym, ◌∙◌}
use Rattle.std.specs.Prelude.{if◌then◌else◌}
use Rattle.std.specs.List.{range_with_len}
use Rattle.std.proofs.lemmas.Bool.{cases_Bool, cases_lt}
use Rattle.std.proofs.lemmas.List.{append-nil}
use Rattle.std.proofs.lemmas.List.Elements.{filter-append}
use Rattle.std.proofs.lemmas.List.Sums.{sum_by-append, sum_by-cons, sum_by_push}
use Rattle.life_intervals.proofs.FilterMaps.{filter-filter_map, filter_map-range_none, filter_map-range_same}
use Rattle.life_intervals.proofs.Ranges.{range_with_len-add}

-- one that passes, alone
filter-one : (p : ℕ → Bool) (n : ℕ) → filter p (n ∷ []) ≡ (if p n then n ∷ [] else [])
filter-one p n = elim (cases_Bool (p n)) [ inl passes ↦ rw passes refl | inr fails ↦ rw fails refl ]

-- one more number at the end of a range from 0
pub filter-range_more : (p : ℕ → Bool) (n : ℕ) → filter p (range_with_len 0 (n + 1)) ≡ filter p (range_with_len 0 n) ++ (if p n then n ∷ [] else [])
filter-range_more p n =
    let start : 0 + n ≡ n = omega arith in
    ap (filter p) (range_with_len-add 0 n 1 ∙ ap (λ (a : ℕ). range_with_len 0 n ++ range_with_len a 1) start)
    ∙ filter-append p (range_with_len 0 n) (n ∷ [])
    ∙ ap (λ xs. filter p (range_with_len 0 n) ++ xs) (filter-one p n)

-- of a range of which each number fails, none is left
filter-range_none : (p : ℕ → Bool) (a n : ℕ) → ((k : ℕ) → k < n → p (a + k) ≡ false) → filter p (range_with_len a n) ≡ []
filter-range_none p a n fails =
    filter-filter_map p (range_with_len a n)
    ∙ filter_map-range_none (λ (j : ℕ). if p j then Some j else None) a n (λ j low high.
    let at : j ≡ a + (j - a) = omega (arith, low) in
    ap (λ (b : Bool). if b then Some j else None) (ap p at ∙ fails (j - a) (omega (arith, low, high))))

-- more numbers at the end of a range from 0, each of which fails
pub filter-range_rest : (p : ℕ → Bool) (m n : ℕ) → ((k : ℕ) → k < n → p (m + k) ≡ false) → filter p (range_with_len 0 (m + n)) ≡ filter p (range_with_len 0 m)
filter-range_rest p m n fails =
    let start : 0 + m ≡ m = omega arith in
    ap (filter p) (range_with_len-add 0 m n ∙ ap (λ (a : ℕ). range_with_len 0 m ++ range_with_len a n) start)
    ∙ filter-append p (range_with_len 0 m) (range_with_len m n)
    ∙ ap (λ xs. filter p (range_with_len 0 m) ++ xs) (filter-range_none p m n fails)
    ∙ append-nil (filter p (range_with_len 0 m))

-- two tests that agree at each number of a range
pub filter-range_same : (p q : ℕ → Bool) (a n : ℕ) → ((j : ℕ) → a ≤ j → j < a + n → p j ≡ q j) → filter p (range_with_len a n) ≡ filter q (range_with_len a n)
filter-range_same p q a n same =
    let by : (ℕ → Bool) → ℕ → Option ℕ = λ test j. if test j then Some j else None in
    filter-filter_map p (range_with_len a n)
    ∙ filter_map-range_same (by p) (by q) a n (λ j low high. ap (λ (b : Bool). if b then Some j else None) (same j low high))
    ∙ sym (filter-filter_map q (range_with_len a n))

-- two tests, one after the other
pub filter-filter : {X : Type 0} (p q : X → Bool) (xs : List X) → filter q (filter p xs) ≡ filter (λ x. p x && q x) xs
filter-filter p q [] = refl
filter-filter p q (x ∷ xs) = elim (cases_Bool (p x)) [
  | inr fails ↦ rw fails (filter-filter p q xs)
  | inl passes ↦ elim (cases_Bool (q x)) [
    | inl both ↦ rw (passes, both) (ap (λ ys. x ∷ ys) (filter-filter p q xs))
    | inr one ↦ rw (passes, one) (filter-filter p q xs)
  ]
]

-- ---- what comes of those that pass

-- what two functions make of them, where they agree at each number
pub flat_map-filter_same : {B : Type 0} (f g : ℕ → List B) (p : ℕ → Bool) (a n : ℕ) → ((j : ℕ) → a ≤ j → j < a + n → f j ≡ g j) →
    flat_map f (filter p (range_with_len a n)) ≡ flat_map g (filter p (range_with_len a n))
flat_map-filter_same f g p a zero same = refl
flat_map-filter_same {B} f g p a (suc n) same =
    let rest : flat_map f (filter p (range_with_len (a + 1) n)) ≡ flat_map g (filter p (range_with_len (a + 1) n)) =
    flat_map-filter_same f g p (a + 1) n (λ j low high. same j (omega (arith, low)) (omega (arith, high))) in
    elim (cases_Bool (p a)) [
      | inl passes ↦ rw passes (ap₂ (λ (xs ys : List B). xs ++ ys) (same a (omega arith) (omega arith)) rest)
      | inr fails ↦ rw fails rest
    ]

-- a number counts as one where it passes a test
abbrev counted : {X : Type 0} → (X → Bool) → X → ℕ
counted q x = if q x then 1 else 0

-- how many of the images of a list pass it
pub count_by-map : {X Y : Type 0} (q : Y → Bool) (f : X → Y) (xs : List X) → count_by q (map f xs) ≡ count_by (λ x. q (f x)) xs
count_by-map q f [] = refl
count_by-map q f (x ∷ xs) =
    sum_by-cons (counted q) (f x) (map f xs) ∙ ap (λ (n : ℕ). counted q (f x) + n) (count_by-map q f xs) ∙ sym (sum_by-cons (counted (λ y. q (f y))) x xs)

-- a first number that fails isn't counted
count_by-first : (q : ℕ → Bool) (keeps : Bool) (a : ℕ) (xs : List ℕ) → q a ≡ false → count_by q (if keeps then a ∷ xs else xs) ≡ count_by q xs
count_by-first q true a xs fails = sum_by-cons (counted q) a xs ∙ ap (λ (b : Bool). (if b then 1 else 0) + count_by q xs) fails ∙ zero-add (count_by q xs)
count_by-first q false a xs fails = refl

-- none is where each fails
count_by-filter_none : (p q : ℕ → Bool) (a n : ℕ) → ((j : ℕ) → a ≤ j → j < a + n → q j ≡ false) → count_by q (filter p (range_with_len a n)) ≡ 0
count_by-filter_none p q a zero fails = refl
count_by-filter_none p q a (suc n) fails =
    count_by-first q (p a) a (filter p (range_with_len (a + 1) n)) (fails a (omega arith) (omega arith))
    ∙ count_by-filter_none p q (a + 1) n (λ j low high. fails j (omega (arith, low)) (omega (arith, high)))

-- or where each that passes the first test fails the second
pub count_by-filter_no_kept : (p q : ℕ → Bool) (a n : ℕ) → ((j : ℕ) → a ≤ j → j < a + n → p j ≡ true → q j ≡ false) → count_by q (filter p (range_with_len a n)) ≡ 0
count_by-filter_no_kept p q a zero fails = refl
count_by-filter_no_kept p q a (suc n) fails =
    let rest : List ℕ = filter p (range_with_len (a + 1) n) in
    let none : count_by q rest ≡ 0 = count_by-filter_no_kept p q (a + 1) n (λ j low high. fails j (omega (arith, low)) (omega (arith, high))) in
    elim (cases_Bool (p a)) [
      | inl kept ↦ count_by-first q (p a) a rest (fails a (omega arith) (omega arith) kept) ∙ none
      | inr dropped ↦ ap (λ (b : Bool). count_by q (if b then a ∷ rest else rest)) dropped ∙ none
    ]

-- and one is where one of those that pass the first test passes the second, and each other fails it
pub count_by-filter_one : (p q : ℕ → Bool) (a n one : ℕ) → a ≤ one → one < a + n → p one ≡ true → q one ≡ true →
    ((j : ℕ) → a ≤ j → j < a + n → (j ≡ one → ⊥) → q j ≡ false) → count_by q (filter p (range_with_len a n)) ≡ 1
count_by-filter_one p q a zero one from below kept passes others = absurd (omega arith)
count_by-filter_one p q a (suc n) one from below kept passes others = elim (cases_lt a one) [
  | inl later ↦
      count_by-first q (p a) a (filter p (range_with_len (a + 1) n)) (others a (omega arith) (omega arith) (λ same. omega (arith, same)))
      ∙ count_by-filter_one p q (a + 1) n one (omega arith) (omega arith) kept passes (λ j low high apart. others j (omega (arith, low)) (omega (arith, high)) apart)
  | inr here ↦
      let same : a ≡ one = omega arith in
      let rest : List ℕ = filter p (range_with_len (a + 1) n) in
      let none : count_by q rest ≡ 0 =
      count_by-filter_none p q (a + 1) n (λ j low high. others j (omega (arith, low)) (omega (arith, high)) (λ at. omega (arith, low, at, same))) in
      ap (λ (b : Bool). count_by q (if b then a ∷ rest else rest)) (ap p same ∙ kept)
      ∙ sum_by-cons (counted q) a rest
      ∙ ap₂ (λ (b : Bool) (k : ℕ). (if b then 1 else 0) + k) (ap q same ∙ passes) none
]

-- a sum over one number more
pub sum_by-range_more : (f : ℕ → ℕ) (n : ℕ) → sum_by f (range_with_len 0 (n + 1)) ≡ sum_by f (range_with_len 0 n) + f n
sum_by-range_more f n =
    let last : 0 + n ≡ n = omega arith in
    ap (sum_by f) (range_with_len-add 0 n 1) ∙ sum_by_push f (range_with_len 0 n) (0 + n) ∙ ap (λ (j : ℕ). sum_by f (range_with_len 0 n) + f j) last

-- a sum over fewer numbers is no greater
pub sum_by-range_le : (f : ℕ → ℕ) (m n : ℕ) → m ≤ n → sum_by f (range_with_len 0 m) ≤ sum_by f (range_with_len 0 n)
sum_by-range_le f m n within =
    let whole : n ≡ m + (n - m) = omega (arith, within) in
    omega (
      arith,
      ap (λ (k : ℕ). sum_by f (range_with_len 0 k)) whole,
      ap (sum_by f) (range_with_len-add 0 m (n - m)),
      sum_by-append f (range_with_len 0 m) (range_with_len (0 + m) (n - m)),
    )
