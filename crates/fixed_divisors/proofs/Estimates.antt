-- Why the high half of a product with the reciprocal is the quotient or one less, and what the rest then tells.
use Rattle.std.proofs.Common.{◌≡◌, ℕ, ◌+◌, ◌-◌, ◌*◌, ◌/◌, ◌%◌, ◌<◌, ◌≤◌, ◌^◌, inl, inr, sym, ap, ◌∙◌, arith}
use Rattle.std.proofs.lemmas.Bool.{cases_lt}
use Rattle.std.proofs.Math.Nat.{mul-le-mul_left, mul-le-mul_right, mul-add-div_right, mul-add-mod_self_right}
use Rattle.std.proofs.lemmas.Nat.{div-add-mod', mod_below}
use Rattle.fixed_divisors.specs.Reciprocal.{IsReciprocal, IsEstimate}

-- the product of x and the reciprocal r, over w, isn't above x over d
estimate-low : (x d r w q : ℕ) → 0 < w → r * d < w → q * w ≤ x * r → q * d ≤ x
estimate-low x d r w q some small below =
    elim (cases_lt x (q * d)) [
      | inl above ↦
          let next : x + 1 ≤ q * d = omega arith in
          let scaled : (x + 1) * w ≤ q * d * w = mul-le-mul_right w next in
          let product : q * w * d ≤ x * r * d = mul-le-mul_right d below in
          let within : x * (r * d) ≤ x * w = mul-le-mul_left x (omega arith) in
          absurd (omega arith)
      | inr low ↦ low
    ]

-- and is more than two below it for no x below w
estimate-high : (x d r w q : ℕ) → 0 < d → x < w → w ≤ (r + 1) * d → x * r < (q + 1) * w → x < (q + 2) * d
estimate-high x d r w q some within large above =
    elim (cases_lt x ((q + 2) * d)) [
      | inl high ↦ high
      | inr below ↦
          let scaled : (q + 2) * d * w ≤ x * w = mul-le-mul_right w below in
          let rounded : x * w ≤ x * ((r + 1) * d) = mul-le-mul_left x large in
          let next : x * r + 1 ≤ (q + 1) * w = omega arith in
          let product : (x * r + 1) * d ≤ (q + 1) * w * d = mul-le-mul_right d next in
          let bound : x + 1 ≤ w = omega arith in
          let last : (x + 1) * d ≤ w * d = mul-le-mul_right d bound in
          absurd (omega arith)
    ]

-- so the high half of a product of 128 bits is an estimate
pub IsEstimate-high_half : (x d r q : ℕ) → x < 2 ^ 64 → IsReciprocal d r → q ≡ x * r / 2 ^ 64 → IsEstimate x d q
IsEstimate-high_half x d r q within is product =
    let largest : (2 ^ 64 - 1) / d * d + (2 ^ 64 - 1) % d ≡ 2 ^ 64 - 1 = div-add-mod' (2 ^ 64 - 1) d in
    let left : (2 ^ 64 - 1) % d < d = mod_below (2 ^ 64 - 1) d is.some in
    let reciprocal : r * d ≡ (2 ^ 64 - 1) / d * d = ap (λ n. n * d) is.exact in
    let whole : x * r / 2 ^ 64 * 2 ^ 64 + x * r % 2 ^ 64 ≡ x * r = div-add-mod' (x * r) (2 ^ 64) in
    let part : x * r % 2 ^ 64 < 2 ^ 64 = mod_below (x * r) (2 ^ 64) (omega arith) in
    record {
      low = estimate-low x d r (2 ^ 64) q (omega arith) (omega arith) (omega arith);
      high = estimate-high x d r (2 ^ 64) q is.some within (omega arith) (omega arith);
    }

-- the quotient is the estimate and the quotient of what it leaves
pub quotient-rest : (x d n q : ℕ) → n ≡ d → 0 < n → IsEstimate x d q → q + (x - q * n) / n ≡ x / d
quotient-rest x d n q same some is =
    let product : q * n ≡ q * d = ap (λ k. q * k) same in
    let low : q * d ≤ x = is.low in
    let whole : q * n + (x - q * n) ≡ x = omega arith in
    sym (mul-add-div_right some q (x - q * n)) ∙ ap (λ k. k / n) whole ∙ ap (λ k. x / k) same

-- the remainder is that of what the estimate leaves
pub remainder-rest : (x d n q : ℕ) → n ≡ d → IsEstimate x d q → (x - q * n) % n ≡ x % d
remainder-rest x d n q same is =
    let product : q * n ≡ q * d = ap (λ k. q * k) same in
    let low : q * d ≤ x = is.low in
    let whole : q * n + (x - q * n) ≡ x = omega arith in
    sym (mul-add-mod_self_right q n (x - q * n)) ∙ ap (λ k. k % n) whole ∙ ap (λ k. x % k) same
