-- The sides of the rectangle: a * b numbers are n or a few more, fewer than a more.
use Rattle.std.proofs.Common.{◌≡◌, ℕ, zero, suc, ◌+◌, ◌-◌, ◌*◌, ◌/◌, ◌%◌, ◌^◌, ◌<◌, ◌≤◌, inl, inr, sym, subst, arith}
use Rattle.std.specs.Prelude.{nat_le}
use Rattle.std.proofs.lemmas.Bool.{cases_lt, leb-true, leb-false, le-leb, lt-leb}
use Rattle.std.proofs.lemmas.Nat.{mul-le, mod_below}
use Rattle.std.proofs.Math.Nat.{div-add-mod}
use Rattle.id_permutation.specs.Placement.{height_of, width_of}
use Rattle.id_permutation.proofs.LeastLaws.{least-is, first_or_none}

-- a number is at most its square
square-ge : (k : ℕ) → k ≤ k * k
square-ge zero = omega arith
square-ge (suc k) = let more : (suc k) * 1 ≤ (suc k) * (suc k) = mul-le (suc k) 1 (suc k) (suc k) (omega arith) (omega arith) in omega arith

-- a is the least number whose square is at least n
pub record IsHeight (n a : ℕ) : Type 0 where
  pub covers : n ≤ a * a
  pub least : (k : ℕ) → k < a → k * k < n

-- what `height_of` gives, where one knows the least
pub height_of-is : (n a : ℕ) → IsHeight n a → height_of n ≡ a
unfolding height_of
height_of-is n a is =
    let within : a ≤ n =
    elim (cases_lt n a) [
      | inl large ↦
          let over : n * n < n = is.least n large in
          let square : n ≤ n * n = square-ge n in
          absurd (omega arith)
      | inr fits ↦ fits
    ] in
    least-is (λ k. nat_le n (k * k)) n a within (le-leb _ _ is.covers) (λ j w. lt-leb _ _ (is.least j w))

-- there is one
pub IsHeight-height_of : (n : ℕ) → IsHeight n (height_of n)
IsHeight-height_of n =
    elim (first_or_none (λ k. nat_le n (k * k)) (n + 1)) [
      | inl found ↦
          let is : IsHeight n found.0 = record {
            covers = leb-true _ _ found.1.passes;
            least = λ k w. leb-false _ _ (found.1.fails k w);
          } in
          subst (λ (a : ℕ). IsHeight n a) (sym (height_of-is n found.0 is)) is
      | inr none ↦
          let over : n * n < n = leb-false _ _ (none n (omega arith)) in
          let square : n ≤ n * n = square-ge n in
          absurd (omega arith)
    ]

-- one more than the whole root of n - 1 is the height
pub height_of-root : (n root : ℕ) → 0 < n → root * root ≤ n - 1 → n - 1 < (root + 1) * (root + 1) → height_of n ≡ root + 1
height_of-root n root some low high = height_of-is n (root + 1) (record {
  covers = omega arith;
  least = λ k w. let square : k * k ≤ root * root = mul-le k k root root (omega arith) (omega arith) in omega arith;
})

-- the sides of n, and the count of the rectangle's numbers
pub record Covers (n a b : ℕ) : Type 0 where
  pub tall : 0 < a
  pub wide : 0 < b
  pub not_wider : b ≤ a
  pub enough : n ≤ a * b
  pub few_more : a * b < n + a

pub Covers-sides : (n : ℕ) → 0 < n → Covers n (height_of n) (width_of n)
unfolding width_of
Covers-sides n some =
    let a = height_of n in
    let square : n ≤ a * a = (IsHeight-height_of n).covers in
    let tall : 0 < a = elim (cases_lt 0 a) [
      | inl h ↦ h
      | inr none ↦
          let zero_square : a * a ≤ 0 * 0 = mul-le a a 0 0 none none in
          absurd (omega arith)
    ] in
    let b = (n + (a - 1)) / a in
    let parts : a * b + (n + (a - 1)) % a ≡ n + (a - 1) = div-add-mod (n + (a - 1)) a in
    let rest : (n + (a - 1)) % a < a = mod_below (n + (a - 1)) a tall in
    let enough : n ≤ a * b = omega arith in
    let few_more : a * b < n + a = omega arith in
    record {
      tall = tall;
      wide = elim (cases_lt 0 b) [
        | inl h ↦ h
        | inr none ↦
            let nothing : a * b ≤ a * 0 = mul-le a b a 0 (omega arith) none in
            absurd (omega arith)
      ];
      not_wider = elim (cases_lt a b) [
        | inl wider ↦
            let more : a * (a + 1) ≤ a * b = mul-le a (a + 1) a b (omega arith) (omega arith) in
            absurd (omega arith)
        | inr h ↦ h
      ];
      enough = enough;
      few_more = few_more;
    }

-- up to 2 ^ 40 numbers, the sides are at most 2 ^ 20
pub height_of-small : (n : ℕ) → n ≤ 2 ^ 40 → height_of n ≤ 2 ^ 20
height_of-small n small =
    elim (cases_lt (2 ^ 20) (height_of n)) [
      | inl tall ↦ let square : 2 ^ 20 * 2 ^ 20 < n = (IsHeight-height_of n).least (2 ^ 20) tall in absurd (omega arith)
      | inr h ↦ h
    ]

-- up to 2 ^ 32 numbers, the sides are at most 2 ^ 16
height_of-few : (n : ℕ) → n ≤ 2 ^ 32 → height_of n ≤ 2 ^ 16
height_of-few n few =
    elim (cases_lt (2 ^ 16) (height_of n)) [
      | inl tall ↦ let square : 2 ^ 16 * 2 ^ 16 < n = (IsHeight-height_of n).least (2 ^ 16) tall in absurd (omega arith)
      | inr h ↦ h
    ]

pub height-few : (n size a : ℕ) → n ≤ 2 ^ 32 → size ≡ n → a ≡ height_of size → a ≤ 2 ^ 16
height-few n size a few same tall =
    let low : height_of size ≤ 2 ^ 16 = height_of-few size (omega arith) in
    omega arith

pub width-few : (n size b : ℕ) → 0 < size → n ≤ 2 ^ 32 → size ≡ n → b ≡ width_of size → b ≤ 2 ^ 16
width-few n size b some few same wide =
    let low : height_of size ≤ 2 ^ 16 = height_of-few size (omega arith) in
    let not_wider : width_of size ≤ height_of size = (Covers-sides size some).not_wider in
    omega arith
