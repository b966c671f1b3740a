-- Digits, and the number that they stand for.
use Rattle.std.proofs.Common.{◌≡◌, ℕ, zero, suc, ◌+◌, ◌-◌, ◌*◌, ◌≤◌, ◌<◌, ◌^◌, true, List, [], ◌∷◌, take, get_or, length, refl, ap, sym, ◌∙◌, arith, rules, decimal, inl, inr, ◌⊎◌}
use Rattle.std.specs.Char.{is_ascii_digit}
use Rattle.std.specs.Int.{IsInRange}
use Rattle.std.specs.List.{Contains, list_all}
use Rattle.std.specs.Str.Parse.{digits_value}
use Rattle.std.proofs.lemmas.Fmt.{decimal-digits_value, decimal_nonempty, digits_decimal, first_decimal, length-decimal-le}
use Rattle.std.proofs.lemmas.Int.Digits.{digits_value_more}
use Rattle.std.proofs.lemmas.Str.{digit_value_digit}
use Rattle.std.proofs.lemmas.Str.Parse.{IsNumeralModel, digit_at, digits_value-take-le, digits_value_short, not_in_digits, numerals_by_value}

pub own : IsNumeralModel (λ ds. list_all is_ascii_digit ds ≡ true) (digits_value 10)
own = numerals_by_value _ (search rules)

module _ (digits : List ℕ) (are : list_all is_ascii_digit digits ≡ true) where
  digit : (i : ℕ) → i < length digits → IsInRange 48 57 (get_or digits i 0)
  digit i below = digit_at digits i (own.to digits are) below

  pub digit_within : (i : ℕ) → i < length digits → (48 ≤ get_or digits i 0) × (get_or digits i 0 ≤ 57)
  digit_within i below = let is = digit i below in (omega arith, omega arith)

  pub value_small : length digits ≤ 13 → (i : ℕ) → digits_value 10 (take i digits) < 10 ^ 13
  value_small few i = omega (arith, digits_value-take-le 10 digits i (omega arith), digits_value_short own digits 13 are few)

  pub value_more : (i value : ℕ) → i < length digits → value ≡ digits_value 10 (take i digits) → value * 10 + (get_or digits i 0 - 48) ≡ digits_value 10 (take (i + 1) digits)
  value_more i value below is =
      let within = digit_within i below in
      omega (arith, is, within.0, digits_value_more 10 digits i below, digit_value_digit (get_or digits i 0) (digit i below))

  -- digits without a zero in front are those of their number
  pub value_written : 0 < length digits → length digits ≤ 13 → (get_or digits 0 0 ≡ 48 → length digits ≡ 1) → (digits_value 10 digits < 10 ^ 13) × (digits ≡ decimal (digits_value 10 digits))
  value_written some few front =
      let small : digits_value 10 digits < 10 ^ 13 = digits_value_short own digits 13 are few in
      (small, sym (decimal-digits_value own digits are some front (omega arith)))

-- the digits of a number: how many, and that none but 0 begins with a zero
pub decimal-some : (n : ℕ) → n < 10 ^ 13 → 0 < length (decimal n)
decimal-some n small = decimal_nonempty n (omega arith)

pub decimal-few : (n : ℕ) → n < 10 ^ 13 → length (decimal n) ≤ 13
decimal-few n small = length-decimal-le 13 n (omega arith) small (omega arith)

pub decimal-digits : (n : ℕ) → n < 10 ^ 13 → list_all is_ascii_digit (decimal n) ≡ true
decimal-digits n small = digits_decimal own n (omega arith)

pub decimal-front : (n : ℕ) → n < 10 ^ 13 → get_or (decimal n) 0 0 ≡ 48 → length (decimal n) ≤ 1
decimal-front n small zero_first = elim (cases_zero n) [
  | inl none ↦ omega (arith, ap (λ (m : ℕ). length (decimal m)) none, length-decimal-le 1 0 (omega arith) (omega arith) (omega arith))
  | inr some ↦ absurd (omega (arith, zero_first, first_decimal n some (omega arith)))
]
  where
    cases_zero : (m : ℕ) → (m ≡ 0) ⊎ (0 < m)
    cases_zero zero = inl refl
    cases_zero (suc m) = inr (omega arith)

-- none of them is another byte
pub decimal-lacks : (n byte : ℕ) → n < 10 ^ 13 → (byte < 48) ⊎ (57 < byte) → ¬ Contains (decimal n) byte
decimal-lacks n byte small other found =
    not_in_digits own (decimal n) byte (decimal-digits n small) (λ is. outside other is) found.0 found.1
    (get_or-any (decimal n) found.0 0 byte found.1 ∙ found.2)
  where
    outside : (byte < 48) ⊎ (57 < byte) → ¬ (IsInRange 48 57 byte)
    outside (inl low) is = omega (arith, low, is)
    outside (inr high) is = omega (arith, high, is)

    get_or-any : (xs : List ℕ) (i d e : ℕ) → i < length xs → get_or xs i d ≡ get_or xs i e
    get_or-any [] i d e below = absurd (omega (arith, below))
    get_or-any (x ∷ xs) zero d e below = refl
    get_or-any (x ∷ xs) (suc i) d e below = get_or-any xs i d e (omega (arith, below))
