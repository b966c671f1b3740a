-- The digits of a number before a text.
use Rattle.std.proofs.Common.{◌≡◌, ℕ, ◌+◌, ◌/◌, ◌%◌, ◌^◌, ◌<◌, ◌≤◌, List, [], ◌∷◌, ◌++◌, length, sym, ap, ◌∙◌, append_assoc, length-append, arith}
use Rattle.std.specs.Fmt.{decimal}
use Rattle.std.proofs.lemmas.Fmt.{decimal_digit, decimal_step, decimal_nonempty}

-- the last digit moves into the text
pub last_digit_before : (n : ℕ) (text longer : List ℕ) → 10 ≤ n → n < 2 ^ 64 → longer ≡ (48 + n % 10) ∷ text →
    decimal (n / 10) ++ longer ≡ decimal n ++ text
last_digit_before n text longer large small is =
    ap (λ (more : List ℕ). decimal (n / 10) ++ more) is
    ∙ sym (append_assoc (decimal (n / 10)) ((48 + n % 10) ∷ []) text)
    ∙ ap (λ (digits : List ℕ). digits ++ text) (sym (decimal_step n large small))

-- a lone digit is before the text
pub lone_digit_before : (n : ℕ) (text longer : List ℕ) → n < 10 → longer ≡ (48 + n) ∷ text → longer ≡ decimal n ++ text
lone_digit_before n text longer small is = is ∙ ap (λ (digits : List ℕ). digits ++ text) (sym (decimal_digit n small))

-- where digits and text together fit, there is room for one more byte before the text
pub room_for_digit : (n number : ℕ) (text whole : List ℕ) → n < 2 ^ 64 → decimal n ++ text ≡ decimal number ++ whole →
    length (decimal number) + length whole ≤ 16 → length text < 16
room_for_digit n number text whole small same fits =
    omega (arith, ap length same, length-append (decimal n) text, length-append (decimal number) whole, decimal_nonempty n small)
