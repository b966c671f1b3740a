-- The placement is a bijection of 0..n-1, `unplace` undoes it, and both walks are short.
use Rattle.std.proofs.Common.{◌≡◌, ℕ, ◌+◌, ◌-◌, ◌*◌, ◌<◌, ◌≤◌, sym, ap, ◌∙◌, subst, arith}
use Rattle.id_permutation.specs.Walk.{IsBijectionBelow, AreInversesBelow, inverse_below, IsFirstBelow, first_below}
use Rattle.id_permutation.specs.Placement.{height_of, width_of, mix, place, unplace}
use Rattle.id_permutation.proofs.BijectionLaws.{IsBijectionBelow-from_inverse, inverse_below-is, AreInversesBelow-inverse_below}
use Rattle.std.proofs.lemmas.Nat.{mul-le}
use Rattle.id_permutation.proofs.WalkLaws.{LiesAhead, IsAhead-begun, IsAhead, returns_below, first_below-is, first_below-inverses, IsFirstBelow-turned}
use Rattle.id_permutation.proofs.SideLaws.{Covers, Covers-sides}
use Rattle.id_permutation.proofs.RoundLaws.{IsBijectionBelow-mix}

-- how many numbers the rectangle has
abbrev pub area_of : ℕ → ℕ
area_of n = height_of n * width_of n

-- the inverse of the rounds
abbrev pub unmix : ℕ → ℕ → ℕ → ℕ
unmix n seed = inverse_below (area_of n) (mix n seed)

pub AreInversesBelow-mix : (n seed : ℕ) → 0 < n → AreInversesBelow (area_of n) (mix n seed) (unmix n seed)
AreInversesBelow-mix n seed some = AreInversesBelow-inverse_below (area_of n) (mix n seed) (IsBijectionBelow-mix n seed some)

pub AreInversesBelow-place : (n seed : ℕ) → 0 < n → AreInversesBelow n (place n seed) (first_below (unmix n seed) n (area_of n))
unfolding place
AreInversesBelow-place n seed some =
    first_below-inverses (mix n seed) (unmix n seed) (area_of n) n (area_of n) (AreInversesBelow-mix n seed some) (Covers-sides n some).enough (omega arith)

-- the placement is a bijection
pub IsBijectionBelow-place : (n seed : ℕ) → 0 < n → IsBijectionBelow n (place n seed)
IsBijectionBelow-place n seed some = IsBijectionBelow-from_inverse n _ _ (AreInversesBelow-place n seed some)

-- `unplace` is its inverse
pub AreInversesBelow-unplace : (n seed : ℕ) → 0 < n → AreInversesBelow n (place n seed) (unplace n seed)
unfolding unplace
AreInversesBelow-unplace n seed some = AreInversesBelow-inverse_below n (place n seed) (IsBijectionBelow-place n seed some)

-- the place is the first of the walk, and fewer than a numbers come before it
pub place-first : (n seed x : ℕ) → 0 < n → x < n → (k : ℕ) × (k < height_of n) × IsFirstBelow (mix n seed) n x k (place n seed x)
unfolding place
place-first n seed x some h =
    let covers : Covers n (height_of n) (width_of n) = Covers-sides n some in
    let enough : n ≤ area_of n = covers.enough in
    let few_more : area_of n < n + height_of n = covers.few_more in
    let first = returns_below (mix n seed) (unmix n seed) (area_of n) n x (AreInversesBelow-mix n seed some) enough h in
    let turns : first.0 ≤ area_of n - n = first.1 in
    let is : first_below (mix n seed) n (area_of n) x ≡ first.2 = first_below-is _ n (area_of n) x first.0 first.2 (omega arith) first.3 in (
      first.0,
      (let short : first.0 < height_of n = omega arith in short),
      subst (λ (y : ℕ). IsFirstBelow (mix n seed) n x first.0 y) (sym is) first.3,
    )

-- from the number of a place the walk leads to that place
pub number-first : (n seed y : ℕ) → 0 < n → y < n → (k : ℕ) × (k < height_of n) × IsFirstBelow (mix n seed) n (unplace n seed y) k y
number-first n seed y some h =
    let inverse : AreInversesBelow n (place n seed) (unplace n seed) = AreInversesBelow-unplace n seed some in
    let x = unplace n seed y in
    let first = place-first n seed x some (inverse.within_back y h) in (
      first.0,
      first.1,
      subst (λ (z : ℕ). IsFirstBelow (mix n seed) n x first.0 z) (inverse.redone y h) first.2,
    )

-- and the number is the first of the walk backwards
pub unplace-first : (n seed y : ℕ) → 0 < n → y < n → (k : ℕ) × (k < height_of n) × IsFirstBelow (unmix n seed) n y k (unplace n seed y)
unplace-first n seed y some h =
    let x = unplace n seed y in
    let below : x < n = (AreInversesBelow-unplace n seed some).within_back y h in
    let first = number-first n seed y some h in (
      first.0,
      first.1,
      IsFirstBelow-turned (mix n seed) (unmix n seed) (area_of n) n x first.0 y (AreInversesBelow-mix n seed some) (Covers-sides n some).enough below first.2,
    )

-- a number below n lies in the rectangle
pub below-area : (n x a b : ℕ) → 0 < n → a ≡ height_of n → b ≡ width_of n → x < n → x < a * b
below-area n x a b some tall wide h =
    let enough : n ≤ height_of n * width_of n = (Covers-sides n some).enough in
    let same : a * b ≡ height_of n * width_of n = ap (λ (k : ℕ). k * b) tall ∙ ap (λ (k : ℕ). height_of n * k) wide in
    omega arith

-- what the rounds make z of is what their inverse gives
pub unmix-is : (n seed x z a b : ℕ) → 0 < n → a ≡ height_of n → b ≡ width_of n → x < a * b → mix n seed x ≡ z → x ≡ unmix n seed z
unmix-is n seed x z a b some tall wide h e =
    let same : a * b ≡ area_of n = ap (λ (k : ℕ). k * b) tall ∙ ap (λ (k : ℕ). height_of n * k) wide in
    sym (inverse_below-is (area_of n) (mix n seed) x z (IsBijectionBelow-mix n seed some) (subst (λ (m : ℕ). x < m) same h) e)

-- the rectangle is as large as it is tall
height-area : (n k : ℕ) → 0 < n → k < height_of n → k ≤ area_of n
height-area n k some h =
    let wide : 0 < width_of n = (Covers-sides n some).wide in
    let row : height_of n * 1 ≤ height_of n * width_of n = mul-le (height_of n) 1 (height_of n) (width_of n) (omega arith) (omega arith) in
    omega arith

-- after the first mix the place lies ahead
pub place-ahead : (n seed x z : ℕ) → 0 < n → x < n → z ≡ mix n seed x → LiesAhead (mix n seed) n (area_of n) z (place n seed x)
place-ahead n seed x z some h e =
    let first = place-first n seed x some h in (
      first.0,
      height-area n first.0 some first.1,
      subst (λ (w : ℕ). IsAhead (mix n seed) n w first.0 (place n seed x)) (sym e) (IsAhead-begun (mix n seed) n x first.0 _ first.2),
    )

-- after the first step back the number lies ahead
pub unplace-ahead : (n seed y z : ℕ) → 0 < n → y < n → z ≡ unmix n seed y → LiesAhead (unmix n seed) n (area_of n) z (unplace n seed y)
unplace-ahead n seed y z some h e =
    let first = unplace-first n seed y some h in (
      first.0,
      height-area n first.0 some first.1,
      subst (λ (w : ℕ). IsAhead (unmix n seed) n w first.0 (unplace n seed y)) (sym e) (IsAhead-begun (unmix n seed) n y first.0 _ first.2),
    )
