-- Which group a number selects, and how many numbers select a group.
use Rattle.std.proofs.Common.{◌≡◌, ℕ, zero, suc, ◌+◌, ◌-◌, ◌<◌, ◌≤◌, ◌==◌, ◌↔◌, Bool, true, false, inl, inr, List, [], ◌∷◌, ◌++◌, length, get_or, sum, count_by, cond, refl, ap, ◌∙◌, arith, eq-eqb, if◌then◌else◌}
use Rattle.std.proofs.lemmas.Bool.{cases_lt, cases_Bool, lt-ltb, le-ltb, eqb-true}
use Rattle.std.proofs.lemmas.List.Sums.{sum_by-append, sum_by-cons}
use Rattle.std.specs.List.{range_with_len}
use Rattle.weight_tables.specs.Weights.{Selects, selected, weight_before, prefix_sum}
use Rattle.weight_tables.proofs.PrefixSumLemmas.{sum-cons, prefix_sum-first, prefix_sum-later, prefix_sum-split, weight_before-rises, prefix_sum-le-sum}

selected-first : (weight : ℕ) (others : List ℕ) (x : ℕ) → x < weight → selected (weight ∷ others) x ≡ 0
unfolding selected
selected-first weight others x below =
    ap (λ (b : Bool). if b then 0 else 1 + selected others (x - weight)) (lt-ltb x weight below)

selected-later : (weight : ℕ) (others : List ℕ) (x : ℕ) → weight ≤ x →
    selected (weight ∷ others) x ≡ suc (selected others (x - weight))
unfolding selected
selected-later weight others x past =
    ap (λ (b : Bool). if b then 0 else 1 + selected others (x - weight)) (le-ltb x weight past) ∙ omega arith

Selects-first : (weight : ℕ) (others : List ℕ) (x : ℕ) → x < weight → Selects (weight ∷ others) x 0
Selects-first weight others x below = record {
  within = omega arith;
  below = omega (arith, prefix_sum-first weight others);
  first = λ h before. absurd (omega arith);
}

first_of_all : (weight : ℕ) (others : List ℕ) (x g : ℕ) → weight ≤ x → Selects others (x - weight) g → (h : ℕ) → h < suc g →
    prefix_sum (weight ∷ others) h ≤ x
first_of_all weight others x g past rest zero before = omega (arith, prefix_sum-first weight others)
first_of_all weight others x g past rest (suc h) before =
    omega (arith, prefix_sum-later weight others h, rest.first h (omega arith))

Selects-later : (weight : ℕ) (others : List ℕ) (x g : ℕ) → weight ≤ x → Selects others (x - weight) g →
    Selects (weight ∷ others) x (suc g)
Selects-later weight others x g past rest = record {
  within = let within : g < length others = rest.within in omega arith;
  below = let below : x - weight < prefix_sum others g = rest.below in omega (arith, prefix_sum-later weight others g);
  first = first_of_all weight others x g past rest;
}

pub Selects-selected : (weights : List ℕ) (x : ℕ) → x < sum weights → Selects weights x (selected weights x)
Selects-selected [] x below = absurd (omega arith)
Selects-selected (weight ∷ others) x below =
    elim (cases_lt x weight) [
      | inl own ↦ rw (selected-first weight others x own) (Selects-first weight others x own)
      | inr past ↦
          let rest : x - weight < sum others = omega (arith, sum-cons weight others) in
          rw (selected-later weight others x past)
          (Selects-later weight others x (selected others (x - weight)) past (Selects-selected others (x - weight) rest))
    ]

no_earlier : (weights : List ℕ) (x g h : ℕ) → Selects weights x g → Selects weights x h → h ≤ g
no_earlier weights x g h one other =
    elim (cases_lt g h) [
      | inl before ↦ absurd (omega (arith, one.below, other.first g before))
      | inr after ↦ after
    ]

pub Selects-unique : (weights : List ℕ) (x g h : ℕ) → Selects weights x g → Selects weights x h → g ≡ h
Selects-unique weights x g h one other =
    omega (arith, no_earlier weights x g h one other, no_earlier weights x h g other one)

passed : (weights : List ℕ) (x g : ℕ) → Selects weights x g → weight_before weights g ≤ x
passed weights x zero s = omega arith
passed weights x (suc g) s = let next : suc g ≡ g + 1 = omega arith in rw next (s.first g (omega arith))

-- a group is selected where the weights before it are passed and its own is not
pub Selects-place : (weights : List ℕ) (x g : ℕ) → g < length weights →
    Selects weights x g
    ↔ ((weight_before weights g ≤ x) × (x < weight_before weights g + get_or weights g 0))
Selects-place weights x g within = (
  λ s. (passed weights x g s, omega (arith, s.below, prefix_sum-split weights g within)),
  λ (low, high). record {
    within = within;
    below = omega (arith, prefix_sum-split weights g within);
    first = λ h before. omega (arith, weight_before-rises weights (h + 1) g (omega arith));
  },
)

-- a range is two, one after the other
range_with_len-add : (a m n : ℕ) → range_with_len a (m + n) ≡ range_with_len a m ++ range_with_len (a + m) n
range_with_len-add a zero n =
    let front : 0 + n ≡ n = omega arith in
    let start : a + 0 ≡ a = omega arith in
    rw (front, start) refl
range_with_len-add a (suc m) n =
    let front : suc m + n ≡ suc (m + n) = omega arith in
    let start : a + suc m ≡ (a + 1) + m = omega arith in
    rw (front, start) (ap (λ (xs : List ℕ). a ∷ xs) (range_with_len-add (a + 1) m n))

count_by-append : (p : ℕ → Bool) (xs ys : List ℕ) → count_by p (xs ++ ys) ≡ count_by p xs + count_by p ys
count_by-append p xs ys = sum_by-append (λ x. cond (p x) 1 0) xs ys

count_by-cons : (p : ℕ → Bool) (x : ℕ) (xs : List ℕ) → count_by p (x ∷ xs) ≡ cond (p x) 1 0 + count_by p xs
count_by-cons p x xs = sum_by-cons (λ x. cond (p x) 1 0) x xs

count_by-none : (p : ℕ → Bool) (a n : ℕ) → ((x : ℕ) → a ≤ x → x < a + n → p x ≡ false) →
    count_by p (range_with_len a n) ≡ 0
count_by-none p a zero fails = refl
count_by-none p a (suc n) fails =
    let here : cond {A = ℕ} (p a) 1 0 ≡ 0 = ap (λ (b : Bool). cond b 1 0) (fails a (omega arith) (omega arith)) in
    let rest : count_by p (range_with_len (a + 1) n) ≡ 0 =
    count_by-none p (a + 1) n (λ x low high. fails x (omega arith) (omega arith)) in
    omega (arith, count_by-cons p a (range_with_len (a + 1) n))

count_by-all : (p : ℕ → Bool) (a n : ℕ) → ((x : ℕ) → a ≤ x → x < a + n → p x ≡ true) →
    count_by p (range_with_len a n) ≡ n
count_by-all p a zero passes = refl
count_by-all p a (suc n) passes =
    let here : cond {A = ℕ} (p a) 1 0 ≡ 1 = ap (λ (b : Bool). cond b 1 0) (passes a (omega arith) (omega arith)) in
    let rest : count_by p (range_with_len (a + 1) n) ≡ n =
    count_by-all p (a + 1) n (λ x low high. passes x (omega arith) (omega arith)) in
    omega (arith, count_by-cons p a (range_with_len (a + 1) n))

-- of the numbers below a + n + m, those from a to a + n - 1 pass
count_by-middle : (p : ℕ → Bool) (a n m : ℕ) → ((x : ℕ) → x < a → p x ≡ false) →
    ((x : ℕ) → a ≤ x → x < a + n → p x ≡ true) →
    ((x : ℕ) → a + n ≤ x → x < a + n + m → p x ≡ false) →
    count_by p (range_with_len 0 (a + n + m)) ≡ n
count_by-middle p a n m low own high =
    let low_none = count_by-none p 0 a (λ x _ below. low x (omega arith)) in
    let own_all = count_by-all p (0 + a) n (λ x from below. own x (omega arith) (omega arith)) in
    let high_none = count_by-none p (0 + (a + n)) m (λ x from below. high x (omega arith) (omega arith)) in
    rw (range_with_len-add 0 (a + n) m, range_with_len-add 0 a n)
    (omega (
      arith,
      count_by-append p (range_with_len 0 a ++ range_with_len (0 + a) n) (range_with_len (0 + (a + n)) m),
      count_by-append p (range_with_len 0 a) (range_with_len (0 + a) n),
      low_none,
      own_all,
      high_none,
    ))

is_selected : (weights : List ℕ) (x g : ℕ) → x < sum weights → Selects weights x g → (selected weights x == g) ≡ true
is_selected weights x g below s =
    eq-eqb (selected weights x) g (Selects-unique weights x (selected weights x) g (Selects-selected weights x below) s)

not_selected : (weights : List ℕ) (x g : ℕ) → x < sum weights → (Selects weights x g → ⊥) → (selected weights x == g) ≡ false
not_selected weights x g below other =
    elim (cases_Bool (selected weights x == g)) [
      | inl same ↦ absurd (other (rw (eqb-true (selected weights x) g same) at (Selects-selected weights x below)))
      | inr different ↦ different
    ]

-- a group is selected by as many numbers as it weighs
pub count_by-selected : (weights : List ℕ) (g : ℕ) → g < length weights →
    count_by (λ x. selected weights x == g) (range_with_len 0 (sum weights)) ≡ get_or weights g 0
count_by-selected weights g within =
    let before = weight_before weights g in
    let own = get_or weights g 0 in
    let after = sum weights - (before + own) in
    let split = prefix_sum-split weights g within in
    let fits : before + own ≤ sum weights = omega (arith, prefix_sum-le-sum weights g, split) in
    let whole : sum weights ≡ before + own + after = omega arith in
    let place = λ (x : ℕ). Selects-place weights x g within in
    rw whole
    (count_by-middle (λ x. selected weights x == g) before own after
    (λ x low. not_selected weights x g (omega arith) (λ s. absurd (omega (arith, ((place x).0 s).0))))
    (λ x low high. is_selected weights x g (omega arith) ((place x).1 (low, high)))
    (λ x low high. not_selected weights x g (omega arith) (λ s. absurd (omega (arith, ((place x).0 s).1)))))
