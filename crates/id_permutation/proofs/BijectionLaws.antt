-- Bijections of a finite range: from an inverse, by composition, and the pigeonhole.
use Rattle.std.proofs.Common.{◌≡◌, ℕ, zero, suc, ◌-◌, ◌<◌, ◌≤◌, true, false, cond, eqb, ltb, List, [], ◌∷◌, length, inl, inr, refl, sym, ap, ◌∙◌, subst, arith}
use Rattle.std.specs.List.{AllByRecursion, IsDistinct, list_any}
use Rattle.std.proofs.lemmas.Bool.{cases_lt, eqb-true, eqb-false, eq-eqb, ne_eqb, or_cases, lt-ltb, le-ltb}
use Rattle.std.proofs.lemmas.Map.Steps.{length-le_from_distinct_below}
use Rattle.id_permutation.specs.Walk.{IsBijectionBelow, AreInversesBelow, inverse_below}
use Rattle.id_permutation.proofs.LeastLaws.{least-is, first_or_none}

-- what has an inverse is a bijection
pub IsBijectionBelow-from_inverse : (n : ℕ) (f g : ℕ → ℕ) → AreInversesBelow n f g → IsBijectionBelow n f
IsBijectionBelow-from_inverse n f g inverse = record {
  within = inverse.within;
  one_to_one = λ x y hx hy e. sym (inverse.undone x hx) ∙ ap g e ∙ inverse.undone y hy;
  onto = λ y hy. (g y, inverse.within_back y hy, inverse.redone y hy);
}

-- the inverse has the map as its inverse
pub AreInversesBelow-turned : (n : ℕ) (f g : ℕ → ℕ) → AreInversesBelow n f g → AreInversesBelow n g f
AreInversesBelow-turned n f g inverse = record {
  within = inverse.within_back;
  within_back = inverse.within;
  undone = inverse.redone;
  redone = inverse.undone;
}

-- the values of h at the numbers below m
values_below : (ℕ → ℕ) → ℕ → List ℕ
values_below h zero = []
values_below h (suc m) = h m ∷ values_below h m

length-values_below : (h : ℕ → ℕ) (m : ℕ) → length (values_below h m) ≡ m
unfolding values_below
length-values_below h zero = refl
length-values_below h (suc m) = ap suc (length-values_below h m)

-- a value among them is that of some number below m
found_among : (h : ℕ → ℕ) (m q : ℕ) → list_any (eqb q) (values_below h m) ≡ true → (i : ℕ) × (i < m) × (q ≡ h i)
unfolding values_below
found_among h zero q e = absurd (cc)
found_among h (suc m) q e =
    elim (or_cases (eqb q (h m)) (list_any (eqb q) (values_below h m)) e) [
      | inl here ↦ (m, omega arith, eqb-true q (h m) here)
      | inr there ↦
          let found = found_among h m q there in
          (found.0, (let w : found.0 < m = found.1 in omega arith), found.2)
    ]

-- each of the values at the numbers below m differs from h i, where h i differs from each
others_differ : (h : ℕ → ℕ) (m x : ℕ) → ((j : ℕ) → j < m → x ≡ h j → ⊥) → AllByRecursion (λ y. eqb x y ≡ false) (values_below h m)
unfolding values_below
others_differ h zero x differs = tt
others_differ h (suc m) x differs = (
  ne_eqb x (h m) (differs m (omega arith)),
  others_differ h m x (λ j w. differs j (omega arith)),
)

values_distinct : (h : ℕ → ℕ) (m : ℕ) → ((i j : ℕ) → j < i → i < m → h i ≡ h j → ⊥) → IsDistinct eqb (values_below h m)
unfolding values_below IsDistinct
values_distinct h zero differs = tt
values_distinct h (suc m) differs = (
  others_differ h m (h m) (λ j w. differs m j w (omega arith)),
  values_distinct h m (λ i j w v. differs i j w (omega arith)),
)

-- the pigeonhole: where m numbers have values below n, no two of them equal, m is at most n
pub pigeonhole : (h : ℕ → ℕ) (m n : ℕ) → ((i : ℕ) → i < m → h i < n) → ((i j : ℕ) → j < i → i < m → h i ≡ h j → ⊥) → m ≤ n
pigeonhole h m n within differs =
    subst (λ (k : ℕ). k ≤ n) (length-values_below h m)
    (length-le_from_distinct_below (values_below h m) n (values_distinct h m differs)
    (λ q e.
    let found = found_among h m q e in
    subst (λ (k : ℕ). k < n) (sym found.2) (within found.0 found.1)))

-- the place of v among the numbers but y
skipped : ℕ → ℕ → ℕ
skipped y v = cond (ltb v y) v (v - 1)

skipped-below : (y v : ℕ) → v < y → skipped y v ≡ v
unfolding skipped
skipped-below y v h = ap (λ b. cond b v (v - 1)) (lt-ltb v y h)

skipped-above : (y v : ℕ) → y ≤ v → skipped y v ≡ v - 1
unfolding skipped
skipped-above y v h = ap (λ b. cond b v (v - 1)) (le-ltb v y h)

-- two numbers other than y have one place among the rest only where they are one
skipped-one : (y v w : ℕ) → (v ≡ y → ⊥) → (w ≡ y → ⊥) → skipped y v ≡ skipped y w → v ≡ w
skipped-one y v w hv hw e =
    elim (cases_lt v y) [
      | inl lv ↦ elim (cases_lt w y) [
        | inl lw ↦ sym (skipped-below y v lv) ∙ e ∙ skipped-below y w lw
        | inr gw ↦
            let a = skipped-below y v lv in
            let b = skipped-above y w gw in
            absurd (omega (arith, hw))
      ]
      | inr gv ↦ elim (cases_lt w y) [
        | inl lw ↦
            let a = skipped-above y v gv in
            let b = skipped-below y w lw in
            absurd (omega (arith, hv))
        | inr gw ↦
            let a = skipped-above y v gv in
            let b = skipped-above y w gw in
            omega (arith, hv, hw)
      ]
    ]

skipped-within : (y v n : ℕ) → y < n → v < n → (v ≡ y → ⊥) → skipped y v < n - 1
skipped-within y v n hy hv other =
    elim (cases_lt v y) [
      | inl low ↦ (let a = skipped-below y v low in omega arith)
      | inr high ↦ (let a = skipped-above y v high in omega (arith, other))
    ]

-- a one-to-one map of a finite range meets each of its numbers
pub onto_from_one_to_one : (n : ℕ) (f : ℕ → ℕ) → ((x : ℕ) → x < n → f x < n) → ((x y : ℕ) → x < n → y < n → f x ≡ f y → x ≡ y) → (y : ℕ) → y < n → (x : ℕ) × (x < n) × (f x ≡ y)
onto_from_one_to_one n f within one_to_one y h =
    elim (first_or_none (λ x. eqb (f x) y) n) [
      | inl found ↦ (found.0, found.1.within, eqb-true _ _ found.1.passes)
      | inr none ↦
          let missed : (x : ℕ) → x < n → f x ≡ y → ⊥ = λ x w. eqb-false _ _ (none x w) in
          let few : n ≤ n - 1 =
          pigeonhole (λ x. skipped y (f x)) n (n - 1)
          (λ x w. skipped-within y (f x) n h (within x w) (missed x w))
          (λ i j w v e.
          let before : j < n = omega arith in
          let same : i ≡ j = one_to_one i j v before (skipped-one y (f i) (f j) (missed i v) (missed j before) e) in
          omega arith) in
          absurd (omega arith)
    ]

-- so it is a bijection
pub IsBijectionBelow-from_one_to_one : (n : ℕ) (f : ℕ → ℕ) → ((x : ℕ) → x < n → f x < n) → ((x y : ℕ) → x < n → y < n → f x ≡ f y → x ≡ y) → IsBijectionBelow n f
IsBijectionBelow-from_one_to_one n f within one_to_one = record {
  within = within;
  one_to_one = one_to_one;
  onto = onto_from_one_to_one n f within one_to_one;
}

-- what `inverse_below` gives, where one knows what f maps to y
pub inverse_below-is : (n : ℕ) (f : ℕ → ℕ) (x y : ℕ) → IsBijectionBelow n f → x < n → f x ≡ y → inverse_below n f y ≡ x
unfolding inverse_below
inverse_below-is n f x y bijection h e =
    least-is (λ z. eqb (f z) y) n x (omega arith) (eq-eqb _ _ e)
    (λ j w. ne_eqb _ _ (λ same.
    let one : j ≡ x = bijection.one_to_one j x (omega arith) h (same ∙ sym e) in
    omega arith))

-- it is the inverse
pub AreInversesBelow-inverse_below : (n : ℕ) (f : ℕ → ℕ) → IsBijectionBelow n f → AreInversesBelow n f (inverse_below n f)
AreInversesBelow-inverse_below n f bijection = record {
  within = bijection.within;
  within_back = λ y h.
      let found = bijection.onto y h in
      subst (λ (x : ℕ). x < n) (sym (inverse_below-is n f found.0 y bijection found.1 found.2)) found.1;
  undone = λ x h. inverse_below-is n f x (f x) bijection h refl;
  redone = λ y h.
      let found = bijection.onto y h in
      ap f (inverse_below-is n f found.0 y bijection found.1 found.2) ∙ found.2;
}
