-- How harmonic weights fall, and how large their sum is.
use Rattle.std.proofs.Common.{◌≡◌, ℕ, zero, suc, ◌+◌, ◌*◌, ◌/◌, ◌<◌, ◌≤◌, ◌^◌, inl, inr, [], ◌++◌, ◌∷◌, All, get_or, length, min, sum, refl, ap, subst, ◌∙◌, arith}
use Rattle.std.proofs.Math.Nat.{le-max_left, pow-le-pow_left, pow-le-pow_right, one-le-pow, div-mul-le_self, mul-le-mul_left, pow-zero, pow-suc}
use Rattle.std.proofs.lemmas.Nat.{le-div}
use Rattle.std.proofs.lemmas.Bool.{cases_lt}
use Rattle.std.proofs.lemmas.List.FromFn.{length-map-range_with_len, get_or-map-range_with_len, map-range_with_len_more, sum_by-map-range_with_len_more}
use Rattle.weight_tables.specs.Harmonic.{harmonic_weight, harmonic_weights}

-- a quotient by more is no more
div-falls : (n a b : ℕ) → 0 < a → a ≤ b → n / b ≤ n / a
div-falls n a b some up =
    le-div (n / b) n a some (omega (arith, mul-le-mul_left (n / b) up, div-mul-le_self n b))

pub harmonic_weight-positive : (power i : ℕ) → 1 ≤ harmonic_weight power i
unfolding harmonic_weight
harmonic_weight-positive power i = le-max_left 1 (10 ^ 9 / (i + 1) ^ power)

pub harmonic_weight-falls : (power i j : ℕ) → i ≤ j → harmonic_weight power j ≤ harmonic_weight power i
unfolding harmonic_weight
harmonic_weight-falls power i j up =
    let base : i + 1 ≤ j + 1 = omega arith in
    let some : 0 < (i + 1) ^ power = one-le-pow power (i + 1) (omega arith) in
    let quotient = div-falls (10 ^ 9) ((i + 1) ^ power) ((j + 1) ^ power) some (pow-le-pow_left base power) in
    omega (arith, quotient)

pow-one : (n : ℕ) → n ^ 1 ≡ n
pow-one n = pow-suc n 0 ∙ ap (λ (m : ℕ). m * n) (pow-zero n) ∙ omega arith

-- no weight is above the first, 10^9
harmonic_weight-most : (power i : ℕ) → harmonic_weight power i ≤ 10 ^ 9
unfolding harmonic_weight
harmonic_weight-most power i =
    let quotient = div-falls (10 ^ 9) 1 ((i + 1) ^ power) (omega arith) (one-le-pow power (i + 1) (omega arith)) in
    omega (arith, quotient)

-- from group 63 on no weight is above a 64th of that
harmonic_weight-low : (power i : ℕ) → 1 ≤ power → 63 ≤ i → harmonic_weight power i ≤ 15625000
unfolding harmonic_weight
harmonic_weight-low power i some later =
    let base : (i + 1) ^ 1 ≤ (i + 1) ^ power = pow-le-pow_right (omega arith) some in
    let large : 64 ≤ (i + 1) ^ power = omega (arith, pow-one (i + 1)) in
    let quotient = div-falls (10 ^ 9) 64 ((i + 1) ^ power) (omega arith) large in
    omega (arith, quotient)

pub harmonic_weights-none : (power : ℕ) → harmonic_weights 0 power ≡ []
unfolding harmonic_weights
harmonic_weights-none power = refl

sum-harmonic_weights-more : (n power : ℕ) →
    sum (harmonic_weights (n + 1) power) ≡ sum (harmonic_weights n power) + harmonic_weight power n
unfolding harmonic_weights
sum-harmonic_weights-more n power =
    sum_by-map-range_with_len_more (λ x. x) (harmonic_weight power) 0 n n (omega arith)

-- the first 63 weights, and the others
sum-bound-more : (n power : ℕ) → 1 ≤ power → sum (harmonic_weights n power) ≤ 10 ^ 9 * min n 63 + 15625000 * n →
    sum (harmonic_weights (n + 1) power) ≤ 10 ^ 9 * min (n + 1) 63 + 15625000 * (n + 1)
sum-bound-more n power some before =
    elim (cases_lt n 63) [
      | inl early ↦ omega (arith, sum-harmonic_weights-more n power, harmonic_weight-most power n)
      | inr late ↦ omega (arith, sum-harmonic_weights-more n power, harmonic_weight-low power n some late)
    ]

sum-bound : (n power : ℕ) → 1 ≤ power → sum (harmonic_weights n power) ≤ 10 ^ 9 * min n 63 + 15625000 * n
sum-bound zero power some = omega (arith, ap sum (harmonic_weights-none power))
sum-bound (suc n) power some =
    let Bound : ℕ → Type 0 = λ m. sum (harmonic_weights m power) ≤ 10 ^ 9 * min m 63 + 15625000 * m in
    let next : n + 1 ≡ suc n = omega arith in
    subst Bound next (sum-bound-more n power some (sum-bound n power some))

pub sum-harmonic_weights : (size power : ℕ) → size ≤ 4096 → 1 ≤ power → sum (harmonic_weights size power) ≤ 2 ^ 40
sum-harmonic_weights size power few some = omega (arith, sum-bound size power some)

pub length-harmonic_weights : (size power : ℕ) → length (harmonic_weights size power) ≡ size
unfolding harmonic_weights
length-harmonic_weights size power = length-map-range_with_len (harmonic_weight power) 0 size

pub get_or-harmonic_weights : (size power i d : ℕ) → i < size → get_or (harmonic_weights size power) i d ≡ harmonic_weight power i
unfolding harmonic_weights
get_or-harmonic_weights size power i d within =
    get_or-map-range_with_len (harmonic_weight power) 0 size i i d within (omega arith)

pub All-harmonic_weights : (size power : ℕ) → All (λ weight. 1 ≤ weight) (harmonic_weights size power)
All-harmonic_weights size power k d within =
    omega (
      arith,
      get_or-harmonic_weights size power k d (omega (arith, length-harmonic_weights size power)),
      harmonic_weight-positive power k,
    )

pub harmonic_weights-fall : (size power g h : ℕ) → g ≤ h → h < size →
    get_or (harmonic_weights size power) h 0 ≤ get_or (harmonic_weights size power) g 0
harmonic_weights-fall size power g h up within =
    omega (
      arith,
      get_or-harmonic_weights size power h 0 within,
      get_or-harmonic_weights size power g 0 (omega arith),
      harmonic_weight-falls power g h up,
    )

-- one weight more, as a loop pushes it
pub harmonic_weights-push : (n power : ℕ) →
    harmonic_weights (n + 1) power ≡ harmonic_weights n power ++ harmonic_weight power n ∷ []
unfolding harmonic_weights
harmonic_weights-push n power = map-range_with_len_more (harmonic_weight power) 0 n n (omega arith)

-- the divisor of a weight, and its bound
pub divisor-some : (i power : ℕ) → 0 < (i + 1) ^ power
divisor-some i power = one-le-pow power (i + 1) (omega arith)

pub divisor-fits : (i power : ℕ) → i < 4096 → power ≤ 3 → (i + 1) ^ power ≤ 2 ^ 36
divisor-fits i power few low =
    let base : i + 1 ≤ 4096 = omega arith in
    let up = pow-le-pow_left base power in
    let more : 4096 ^ power ≤ 4096 ^ 3 = pow-le-pow_right (omega arith) low in
    omega arith
