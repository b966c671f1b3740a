-- Numbers that stand for the lines of rows: 64 for each row, of which the first ones are those of its lines.
use Rattle.std.proofs.Common.{◌≡◌, ℕ, zero, suc, ◌+◌, ◌-◌, ◌*◌, ◌/◌, ◌%◌, ◌<◌, ◌≤◌, nat_lt, Bool, true, false, ◌&&◌, List, ◌++◌, filter, flat_map, inl, inr, refl, ap, ap₂, arith, sym, ◌∙◌}
use Rattle.std.specs.List.{range_with_len}
use Rattle.std.proofs.lemmas.Bool.{cases_Bool, le-ltb, lt-ltb}
use Rattle.std.proofs.lemmas.List.Concat.{flat_map-append}
use Rattle.std.proofs.lemmas.List.Elements.{filter-append}
use Rattle.std.proofs.lemmas.Nat.{div-mul-add, mod-mul-add}
use Rattle.life_intervals.proofs.Ranges.{range_with_len-add}

-- the row of a number, and the number of its line, from 1
abbrev pub row_of : ℕ → ℕ
row_of n = n / 64

abbrev pub number_of : ℕ → ℕ
number_of n = n % 64 + 1

-- whether a number stands for a line, where these rows are there and have so many lines
abbrev pub is_line : (ℕ → Bool) → (ℕ → ℕ) → ℕ → Bool
is_line live count n = live (row_of n) && nat_lt (n % 64) (count (row_of n))

pub row_of-at : (j k : ℕ) → k < 64 → row_of (j * 64 + k) ≡ j
row_of-at j k small = div-mul-add j 64 k small

pub rest-at : (j k : ℕ) → k < 64 → (j * 64 + k) % 64 ≡ k
rest-at j k small = mod-mul-add j 64 k small

pub number_of-at : (j k : ℕ) → k < 64 → number_of (j * 64 + k) ≡ k + 1
number_of-at j k small = ap (λ (rest : ℕ). rest + 1) (rest-at j k small)

-- what passes of a range of which the first pass and the others fail
passing : {X : Type 0} (f : ℕ → List X) (p : ℕ → Bool) (a c n : ℕ) → c ≤ n → ((j : ℕ) → a ≤ j → j < a + c → p j ≡ true) → ((j : ℕ) → a + c ≤ j → j < a + n → p j ≡ false) →
    flat_map f (filter p (range_with_len a n)) ≡ flat_map f (range_with_len a c)
passing f p a zero zero few pass fail = refl
passing f p a (suc c) zero few pass fail = absurd (omega (arith, few))
passing f p a zero (suc n) few pass fail =
    rw (fail a (omega arith) (omega arith)) (passing f p (a + 1) zero n (omega arith) (λ j low high. absurd (omega (arith, low, high))) (λ j low high. fail j (omega (arith, low)) (omega (arith, high))))
passing {X} f p a (suc c) (suc n) few pass fail =
    rw (pass a (omega arith) (omega arith)) (ap (λ (xs : List X). f a ++ xs)
    (passing f p (a + 1) c n (omega (arith, few)) (λ j low high. pass j (omega (arith, low)) (omega (arith, high))) (λ j low high. fail j (omega (arith, low)) (omega (arith, high)))))

-- what comes of two ranges alike
pub alike : {X : Type 0} (f g : ℕ → List X) (a b c : ℕ) → ((k : ℕ) → k < c → f (a + k) ≡ g (b + k)) → flat_map f (range_with_len a c) ≡ flat_map g (range_with_len b c)
alike f g a b zero same = refl
alike {X} f g a b (suc c) same =
    let here_a : a + 0 ≡ a = omega arith in
    let here_b : b + 0 ≡ b = omega arith in
    let head : f a ≡ g b = ap f (sym here_a) ∙ same 0 (omega arith) ∙ ap g here_b in
    ap₂ (λ (xs ys : List X). xs ++ ys) head (alike f g (a + 1) (b + 1) c (λ k below.
    let next_a : (a + 1) + k ≡ a + (k + 1) = omega arith in
    let next_b : b + (k + 1) ≡ (b + 1) + k = omega arith in
    ap f next_a ∙ same (k + 1) (omega (arith, below)) ∙ ap g next_b))

module _ {X : Type 0} (f : ℕ → List X) (live : ℕ → Bool) (count : ℕ → ℕ) (few : (j : ℕ) → count j ≤ 64) where
  -- whether a number of a row stands for a line
  is_line-at : (j k : ℕ) → k < 64 → is_line live count (j * 64 + k) ≡ (live j && nat_lt k (count j))
  is_line-at j k small = ap₂ (λ (row rest : ℕ). live row && nat_lt rest (count row)) (row_of-at j k small) (rest-at j k small)

  line-passes : (j n : ℕ) → live j ≡ true → j * 64 ≤ n → n < j * 64 + count j → is_line live count n ≡ true
  line-passes j n alive low high =
      let at : n ≡ j * 64 + (n - j * 64) = omega (arith, low) in
      ap (is_line live count) at ∙ is_line-at j (n - j * 64) (omega (arith, low, high, few j))
      ∙ ap₂ (λ (a b : Bool). a && b) alive (lt-ltb (n - j * 64) (count j) (omega (arith, low, high)))

  line-fails : (j n : ℕ) → live j ≡ true → j * 64 + count j ≤ n → n < j * 64 + 64 → is_line live count n ≡ false
  line-fails j n alive low high =
      let at : n ≡ j * 64 + (n - j * 64) = omega (arith, low) in
      ap (is_line live count) at ∙ is_line-at j (n - j * 64) (omega (arith, low, high))
      ∙ ap₂ (λ (a b : Bool). a && b) alive (le-ltb (n - j * 64) (count j) (omega (arith, low)))

  row-fails : (j n : ℕ) → live j ≡ false → j * 64 ≤ n → n < j * 64 + 64 → is_line live count n ≡ false
  row-fails j n dead low high =
      let at : n ≡ j * 64 + (n - j * 64) = omega (arith, low) in
      ap (is_line live count) at ∙ is_line-at j (n - j * 64) (omega (arith, low, high))
      ∙ ap (λ (a : Bool). a && nat_lt (n - j * 64) (count j)) dead

  -- the lines of the rows of a range that are there
  pub lines-rows : (a n : ℕ) →
      flat_map (λ (j : ℕ). flat_map f (range_with_len (j * 64) (count j))) (filter live (range_with_len a n))
      ≡ flat_map f (filter (is_line live count) (range_with_len (a * 64) (n * 64)))
  lines-rows a zero = refl
  lines-rows a (suc n) =
      let p : ℕ → Bool = is_line live count in
      let size : suc n * 64 ≡ 64 + n * 64 = omega arith in
      let next : a * 64 + 64 ≡ (a + 1) * 64 = omega arith in
      let behind : List X = flat_map f (filter p (range_with_len ((a + 1) * 64) (n * 64))) in
      let rest : flat_map (λ (j : ℕ). flat_map f (range_with_len (j * 64) (count j))) (filter live (range_with_len (a + 1) n)) ≡ behind = lines-rows (a + 1) n in
      let cut : flat_map f (filter p (range_with_len (a * 64) (suc n * 64))) ≡ flat_map f (filter p (range_with_len (a * 64) 64)) ++ behind =
      ap (λ (m : ℕ). flat_map f (filter p (range_with_len (a * 64) m))) size
      ∙ ap (λ (xs : List ℕ). flat_map f (filter p xs)) (range_with_len-add (a * 64) 64 (n * 64))
      ∙ ap (flat_map f) (filter-append p (range_with_len (a * 64) 64) (range_with_len (a * 64 + 64) (n * 64)))
      ∙ flat_map-append f (filter p (range_with_len (a * 64) 64)) (filter p (range_with_len (a * 64 + 64) (n * 64)))
      ∙ ap (λ (m : ℕ). flat_map f (filter p (range_with_len (a * 64) 64)) ++ flat_map f (filter p (range_with_len m (n * 64)))) next in
      elim (cases_Bool (live a)) [
        | inl alive ↦
            let own : flat_map f (filter p (range_with_len (a * 64) 64)) ≡ flat_map f (range_with_len (a * 64) (count a)) =
            passing f p (a * 64) (count a) 64 (few a) (λ j low high. line-passes a j alive low high) (λ j low high. line-fails a j alive low high) in
            rw (cut, own, alive) (ap (λ (xs : List X). flat_map f (range_with_len (a * 64) (count a)) ++ xs) rest)
        | inr dead ↦
            let own : flat_map f (filter p (range_with_len (a * 64) 64)) ≡ flat_map f (range_with_len (a * 64) 0) =
            passing f p (a * 64) 0 64 (omega arith) (λ j low high. absurd (omega (arith, low, high))) (λ j low high. row-fails a j dead (omega (arith, low)) high) in
            rw (cut, own, dead) rest
      ]
