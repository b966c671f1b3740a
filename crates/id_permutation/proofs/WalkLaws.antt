-- Walking a cycle of a bijection: the first return below n exists, is one, and the inverse walk finds it back.
use Rattle.std.proofs.Common.{◌≡◌, ℕ, zero, suc, ◌+◌, ◌-◌, ◌<◌, ◌≤◌, inl, inr, refl, sym, ap, ◌∙◌, subst, arith, add-one}
use Rattle.std.proofs.lemmas.Bool.{cases_order, ltb-true, ltb-false, lt-ltb, le-ltb}
use Rattle.std.specs.Prelude.{nat_lt}
use Rattle.id_permutation.specs.Least.{least}
use Rattle.id_permutation.specs.Walk.{AreInversesBelow, iterate, IsFirstBelow, first_below}
use Rattle.id_permutation.proofs.LeastLaws.{least-is, first_or_none}
use Rattle.id_permutation.proofs.BijectionLaws.{AreInversesBelow-turned, pigeonhole}

pub iterate-zero : (f : ℕ → ℕ) (x : ℕ) → iterate f zero x ≡ x
unfolding iterate
iterate-zero f x = refl

pub iterate-suc : (f : ℕ → ℕ) (k x : ℕ) → iterate f (suc k) x ≡ f (iterate f k x)
unfolding iterate
iterate-suc f k x = refl

pub iterate-more : (f : ℕ → ℕ) (k x : ℕ) → iterate f (k + 1) x ≡ f (iterate f k x)
iterate-more f k x = ap (λ j. iterate f j x) (add-one k) ∙ iterate-suc f k x

-- the walk stays in the range
pub iterate-within : (f : ℕ → ℕ) (n k x : ℕ) → ((y : ℕ) → y < n → f y < n) → x < n → iterate f k x < n
unfolding iterate
iterate-within f n zero x within h = h
iterate-within f n (suc k) x within h = within (iterate f k x) (iterate-within f n k x within h)

-- the inverse goes i steps back
pub iterate-back : (f g : ℕ → ℕ) (n m i x : ℕ) → AreInversesBelow n f g → x < n → i ≤ m → iterate g i (iterate f m x) ≡ iterate f (m - i) x
iterate-back f g n m zero x inverse h w = iterate-zero g (iterate f m x) ∙ ap (λ j. iterate f j x) (omega arith)
iterate-back f g n m (suc i) x inverse h w =
    let earlier : i ≤ m = omega arith in
    let step : m - i ≡ suc (m - suc i) = omega arith in
    iterate-suc g i (iterate f m x)
    ∙ ap g (iterate-back f g n m i x inverse h earlier)
    ∙ ap (λ j. g (iterate f j x)) step
    ∙ ap g (iterate-suc f (m - suc i) x)
    ∙ inverse.undone (iterate f (m - suc i) x) (iterate-within f n (m - suc i) x inverse.within h)

-- where two steps of a walk meet, it came back to its start between them
came_back : (f g : ℕ → ℕ) (n i j x : ℕ) → AreInversesBelow n f g → x < n → j ≤ i → iterate f i x ≡ iterate f j x → iterate f (i - j) x ≡ x
came_back f g n i j x inverse h w e =
    sym (iterate-back f g n i j x inverse h w)
    ∙ ap (iterate g j) e
    ∙ iterate-back f g n j j x inverse h (omega arith)
    ∙ ap (λ k. iterate f k x) (let same : j - j ≡ 0 = omega arith in same)
    ∙ iterate-zero f x

-- a walk that starts below n is below n again within size - n + 1 steps
pub returns_below : (f g : ℕ → ℕ) (size n x : ℕ) → AreInversesBelow size f g → n ≤ size → x < n → (k : ℕ) × (k ≤ size - n) × (y : ℕ) × IsFirstBelow f n x k y
returns_below f g size n x inverse fits h =
    elim (first_or_none (λ k. nat_lt (iterate f (k + 1) x) n) (size - n + 1)) [
      | inl found ↦ (
        found.0,
        (let w : found.0 < size - n + 1 = found.1.within in omega arith),
        iterate f (found.0 + 1) x,
        record {
          reached = refl;
          below = ltb-true _ _ found.1.passes;
          walked_past = λ j w. ltb-false _ _ (found.1.fails j w);
        },
      )
      | inr none ↦
          let past : (j : ℕ) → j < size - n + 1 → n ≤ iterate f (j + 1) x = λ j w. ltb-false _ _ (none j w) in
          let inside : x < size = omega arith in
          let few : size - n + 1 ≤ size - n =
          pigeonhole (λ j. iterate f (j + 1) x - n) (size - n + 1) (size - n)
          (λ i w.
          let low : n ≤ iterate f (i + 1) x = past i w in
          let high : iterate f (i + 1) x < size = iterate-within f size (i + 1) x inverse.within inside in
          omega arith)
          (λ i j w v e.
          let low_i : n ≤ iterate f (i + 1) x = past i v in
          let low_j : n ≤ iterate f (j + 1) x = past j (omega arith) in
          let same : iterate f (i + 1) x ≡ iterate f (j + 1) x = omega arith in
          let back : iterate f (i + 1 - (j + 1)) x ≡ x = came_back f g size (i + 1) (j + 1) x inverse inside (omega arith) same in
          let turns : i + 1 - (j + 1) ≡ i - j - 1 + 1 = omega arith in
          let there : n ≤ iterate f (i - j - 1 + 1) x = past (i - j - 1) (omega arith) in
          let here : iterate f (i - j - 1 + 1) x ≡ x = ap (λ k. iterate f k x) (sym turns) ∙ back in
          omega arith) in
          absurd (omega arith)
    ]

-- the first is one
pub IsFirstBelow-one : (f : ℕ → ℕ) (n x k y j z : ℕ) → IsFirstBelow f n x k y → IsFirstBelow f n x j z → (k ≡ j) × (y ≡ z)
IsFirstBelow-one f n x k y j z one other =
    let same : k ≡ j =
    elim (cases_order k j) [
      | inl e ↦ e
      | inr apart ↦ elim apart [
        | inl less ↦
            let past : n ≤ iterate f (k + 1) x = other.walked_past k less in
            let at : iterate f (k + 1) x ≡ y = one.reached in
            let low : y < n = one.below in
            absurd (omega arith)
        | inr more ↦
            let past : n ≤ iterate f (j + 1) x = one.walked_past j more in
            let at : iterate f (j + 1) x ≡ z = other.reached in
            let low : z < n = other.below in
            absurd (omega arith)
      ]
    ] in
    (same, sym one.reached ∙ ap (λ i. iterate f (i + 1) x) same ∙ other.reached)

-- the inverse walk from the first finds the start, past the same numbers
pub IsFirstBelow-turned : (f g : ℕ → ℕ) (size n x k y : ℕ) → AreInversesBelow size f g → n ≤ size → x < n → IsFirstBelow f n x k y → IsFirstBelow g n y k x
IsFirstBelow-turned f g size n x k y inverse fits h first =
    let inside : x < size = omega arith in
    let back : (i : ℕ) → i ≤ k + 1 → iterate g i y ≡ iterate f (k + 1 - i) x =
    λ i w. ap (iterate g i) (sym first.reached) ∙ iterate-back f g size (k + 1) i x inverse inside w in
    record {
      reached = back (k + 1) (omega arith) ∙ ap (λ i. iterate f i x) (let none : k + 1 - (k + 1) ≡ 0 = omega arith in none) ∙ iterate-zero f x;
      below = h;
      walked_past = λ j w.
          let step : k + 1 - (j + 1) ≡ k - j - 1 + 1 = omega arith in
          let past : n ≤ iterate f (k - j - 1 + 1) x = first.walked_past (k - j - 1) (omega arith) in
          let there : iterate g (j + 1) y ≡ iterate f (k - j - 1 + 1) x =
          back (j + 1) (omega arith) ∙ ap (λ i. iterate f i x) step in
          omega arith;
    }

-- what `first_below` gives, where one knows the first
pub first_below-is : (f : ℕ → ℕ) (n tries x k y : ℕ) → k ≤ tries → IsFirstBelow f n x k y → first_below f n tries x ≡ y
unfolding first_below
first_below-is f n tries x k y room first =
    let low : iterate f (k + 1) x < n = subst (λ (z : ℕ). z < n) (sym first.reached) first.below in
    ap (λ j. iterate f (j + 1) x)
    (least-is (λ j. nat_lt (iterate f (j + 1) x) n) tries k room (lt-ltb _ _ low) (λ j w. le-ltb _ _ (first.walked_past j w)))
    ∙ first.reached

-- the walk of a bijection ends below n
first_below-within : (f g : ℕ → ℕ) (size n tries x : ℕ) → AreInversesBelow size f g → n ≤ size → size - n ≤ tries → x < n → first_below f n tries x < n
first_below-within f g size n tries x inverse fits room h =
    let first = returns_below f g size n x inverse fits h in
    let short : first.0 ≤ tries = (let w : first.0 ≤ size - n = first.1 in omega arith) in
    subst (λ (y : ℕ). y < n) (sym (first_below-is f n tries x first.0 first.2 short first.3)) first.3.below

-- the inverse's walk undoes the walk
first_below-undone : (f g : ℕ → ℕ) (size n tries x : ℕ) → AreInversesBelow size f g → n ≤ size → size - n ≤ tries → x < n → first_below g n tries (first_below f n tries x) ≡ x
first_below-undone f g size n tries x inverse fits room h =
    let first = returns_below f g size n x inverse fits h in
    let short : first.0 ≤ tries = (let w : first.0 ≤ size - n = first.1 in omega arith) in
    ap (first_below g n tries) (first_below-is f n tries x first.0 first.2 short first.3)
    ∙ first_below-is g n tries first.2 first.0 x short (IsFirstBelow-turned f g size n x first.0 first.2 inverse fits h first.3)

-- so it is a bijection of the numbers below n, with the inverse's walk as its inverse
pub first_below-inverses : (f g : ℕ → ℕ) (size n tries : ℕ) → AreInversesBelow size f g → n ≤ size → size - n ≤ tries → AreInversesBelow n (first_below f n tries) (first_below g n tries)
first_below-inverses f g size n tries inverse fits room = record {
  within = λ x h. first_below-within f g size n tries x inverse fits room h;
  within_back = λ y h. first_below-within g f size n tries y (AreInversesBelow-turned size f g inverse) fits room h;
  undone = λ x h. first_below-undone f g size n tries x inverse fits room h;
  redone = λ y h. first_below-undone g f size n tries y (AreInversesBelow-turned size f g inverse) fits room h;
}

-- y lies k steps of the walk ahead of z, z itself included, and is the first below n
pub record IsAhead (f : ℕ → ℕ) (n z k y : ℕ) : Type 0 where
  pub reached : iterate f k z ≡ y
  pub below : y < n
  pub walked_past : (j : ℕ) → j < k → n ≤ iterate f j z

-- a walk from f x has one step fewer than one from x
pub iterate-next : (f : ℕ → ℕ) (k x : ℕ) → iterate f k (f x) ≡ iterate f (k + 1) x
iterate-next f zero x = iterate-zero f (f x) ∙ ap f (sym (iterate-zero f x)) ∙ sym (iterate-more f 0 x)
iterate-next f (suc k) x = iterate-suc f k (f x) ∙ ap f (iterate-next f k x ∙ ap (λ j. iterate f j x) (add-one k)) ∙ sym (iterate-more f (suc k) x)

-- the walk begins one step on
pub IsAhead-begun : (f : ℕ → ℕ) (n x k y : ℕ) → IsFirstBelow f n x k y → IsAhead f n (f x) k y
IsAhead-begun f n x k y first = record {
  reached = iterate-next f k x ∙ first.reached;
  below = first.below;
  walked_past = λ j w. subst (λ (z : ℕ). n ≤ z) (sym (iterate-next f j x)) (first.walked_past j w);
}

-- it ends at the first
pub IsAhead-ended : (f : ℕ → ℕ) (n z k y : ℕ) → z < n → IsAhead f n z k y → z ≡ y
IsAhead-ended f n z zero y h ahead = sym (iterate-zero f z) ∙ ahead.reached
IsAhead-ended f n z (suc k) y h ahead =
    let past : n ≤ iterate f zero z = ahead.walked_past zero (omega arith) in
    let start : iterate f zero z ≡ z = iterate-zero f z in
    absurd (omega arith)

-- until then it goes on
pub IsAhead-more : (f : ℕ → ℕ) (n z k y : ℕ) → n ≤ z → IsAhead f n z k y → (j : ℕ) × (j + 1 ≡ k) × IsAhead f n (f z) j y
IsAhead-more f n z zero y h ahead =
    let start : iterate f zero z ≡ z = iterate-zero f z in
    let at : iterate f zero z ≡ y = ahead.reached in
    let low : y < n = ahead.below in
    absurd (omega arith)
IsAhead-more f n z (suc k) y h ahead = (
  k,
  add-one k,
  record {
    reached = iterate-next f k z ∙ ap (λ j. iterate f j z) (add-one k) ∙ ahead.reached;
    below = ahead.below;
    walked_past = λ j w. subst (λ (x : ℕ). n ≤ x) (sym (iterate-next f j z)) (ahead.walked_past (j + 1) (omega arith));
  },
)

-- how many steps are left from z, of at most `tries`
pub steps_left : (ℕ → ℕ) → ℕ → ℕ → ℕ → ℕ
steps_left f n tries z = least (λ j. nat_lt (iterate f j z) n) tries

pub steps_left-is : (f : ℕ → ℕ) (n tries z k y : ℕ) → k ≤ tries → IsAhead f n z k y → steps_left f n tries z ≡ k
unfolding steps_left
steps_left-is f n tries z k y room ahead =
    let low : iterate f k z < n = subst (λ (x : ℕ). x < n) (sym ahead.reached) ahead.below in
    least-is (λ j. nat_lt (iterate f j z) n) tries k room (lt-ltb _ _ low) (λ j w. le-ltb _ _ (ahead.walked_past j w))

-- at a number of the walk that is not below n, fewer are left after it
pub steps_left-more : (f : ℕ → ℕ) (n tries z k y : ℕ) → k ≤ tries → n ≤ z → IsAhead f n z k y → steps_left f n tries (f z) < steps_left f n tries z
steps_left-more f n tries z k y room h ahead =
    let rest = IsAhead-more f n z k y h ahead in
    let step : rest.0 + 1 ≡ k = rest.1 in
    let now : steps_left f n tries z ≡ k = steps_left-is f n tries z k y room ahead in
    let next : steps_left f n tries (f z) ≡ rest.0 = steps_left-is f n tries (f z) rest.0 y (omega arith) rest.2 in
    omega arith

-- y lies at most `tries` steps ahead of z
abbrev pub LiesAhead : (ℕ → ℕ) → ℕ → ℕ → ℕ → ℕ → Type 0
LiesAhead f n tries z y = (k : ℕ) × (k ≤ tries) × IsAhead f n z k y

-- the walk goes on by w
pub LiesAhead-more : (f : ℕ → ℕ) (n tries z w y : ℕ) → w ≡ f z → n ≤ z → LiesAhead f n tries z y → LiesAhead f n tries w y
LiesAhead-more f n tries z w y e h ahead =
    let rest = IsAhead-more f n z ahead.0 y h ahead.2 in
    let step : rest.0 + 1 ≡ ahead.0 = rest.1 in
    let room : ahead.0 ≤ tries = ahead.1 in (
      rest.0,
      (let short : rest.0 ≤ tries = omega arith in short),
      subst (λ (x : ℕ). IsAhead f n x rest.0 y) (sym e) rest.2,
    )

-- and w has fewer steps left
pub steps_left-falls : (f : ℕ → ℕ) (n tries z w y : ℕ) → w ≡ f z → n ≤ z → LiesAhead f n tries z y → steps_left f n tries w < steps_left f n tries z
steps_left-falls f n tries z w y e h ahead =
    subst (λ (x : ℕ). steps_left f n tries x < steps_left f n tries z) (sym e) (steps_left-more f n tries z ahead.0 y ahead.1 h ahead.2)

-- it ends at y
pub LiesAhead-ended : (f : ℕ → ℕ) (n tries z y : ℕ) → z < n → LiesAhead f n tries z y → z ≡ y
LiesAhead-ended f n tries z y h ahead = IsAhead-ended f n z ahead.0 y h ahead.2
