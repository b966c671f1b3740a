-- Numbers and dates stand for themselves: no byte of theirs is escaped.
use Rattle.std.proofs.Common.{◌≡◌, ◌<◌, ℕ, ℤ, pos, negsuc, zero, suc, ◌+◌, ◌/◌, ◌%◌, ◌^◌, ◌==◌, true, false, if◌then◌else◌, List, [], ◌∷◌, ◌++◌, decimal, refl, ap, ◌∙◌, arith}
use Rattle.std.specs.Prelude.{All}
use Rattle.std.specs.Fmt.{digit_glyph, digits, digits_onto, signed_decimal}
use Rattle.std.specs.Int.{IsInRange}
use Rattle.std.specs.List.{flat_map}
use Rattle.std.proofs.lemmas.Bool.{and_left, lt-ltb, ne_eqb}
use Rattle.std.proofs.lemmas.List.Concat.{flat_map-cons}
use Rattle.std.proofs.lemmas.List.Elements.{All-append, All-cons, All-head, All-nil, All-tail}
use Rattle.row_text.specs.Fields.{escaped, escaped_text}
use Rattle.draw_values.specs.Dates.{date_digits, date_text}
use Rattle.line_pages.specs.Digits.{last_digits}
use Rattle.draw_values.specs.Digits.{pointed, signed_pointed}

-- a minus sign, a point or a digit, or the slash between the two
abbrev pub IsPlain : ℕ → Type 0
IsPlain byte = IsInRange 45 57 byte

pub escaped-plain : (delimiter byte : ℕ) → IsPlain byte → escaped delimiter byte ≡ byte ∷ []
unfolding escaped
escaped-plain delimiter byte plain =
    simp (
      ne_eqb byte 8 (omega arith),
      ne_eqb byte 9 (omega arith),
      ne_eqb byte 10 (omega arith),
      ne_eqb byte 11 (omega arith),
      ne_eqb byte 12 (omega arith),
      ne_eqb byte 13 (omega arith),
      ne_eqb byte 92 (omega arith),
      and_left (byte == 124) (delimiter == 124) (ne_eqb byte 124 (omega arith)),
    )

-- so does a small letter
pub escaped-small_letter : (delimiter byte : ℕ) → IsInRange 97 122 byte → escaped delimiter byte ≡ byte ∷ []
unfolding escaped
escaped-small_letter delimiter byte letter =
    simp (
      ne_eqb byte 8 (omega arith),
      ne_eqb byte 9 (omega arith),
      ne_eqb byte 10 (omega arith),
      ne_eqb byte 11 (omega arith),
      ne_eqb byte 12 (omega arith),
      ne_eqb byte 13 (omega arith),
      ne_eqb byte 92 (omega arith),
      and_left (byte == 124) (delimiter == 124) (ne_eqb byte 124 (omega arith)),
    )

-- a text of such bytes is written as it is
pub escaped_text-plain : (delimiter : ℕ) (bytes : List ℕ) → All IsPlain bytes → escaped_text delimiter bytes ≡ bytes
escaped_text-plain delimiter [] plain = refl
escaped_text-plain delimiter (byte ∷ bytes) plain =
    flat_map-cons (escaped delimiter) byte bytes
    ∙ ap (λ (own : List ℕ). own ++ flat_map (escaped delimiter) bytes) (escaped-plain delimiter byte (All-head IsPlain byte bytes plain))
    ∙ ap (λ (rest : List ℕ). byte ∷ rest) (escaped_text-plain delimiter bytes (All-tail IsPlain byte bytes plain))

plain_digit : (n : ℕ) → IsPlain (48 + n % 10)
plain_digit n = (omega arith, omega arith)

plain_glyph : (n : ℕ) → IsPlain (digit_glyph false (n % 10))
plain_glyph n = let small : n % 10 < 10 = omega arith in rw (lt-ltb (n % 10) 10 small) (plain_digit n)

plain_onto : (k n : ℕ) (text : List ℕ) → All IsPlain text → All IsPlain (digits_onto k 10 false n text)
plain_onto zero n text plain = plain
plain_onto (suc k) n text plain =
    let longer = All-cons IsPlain (digit_glyph false (n % 10)) text (plain_glyph n) plain in
    elim (n / 10 == 0) as (λ last. All IsPlain (if last then digit_glyph false (n % 10) ∷ text else digits_onto k 10 false (n / 10) (digit_glyph false (n % 10) ∷ text))) [
      | true ↦ longer
      | false ↦ plain_onto k (n / 10) (digit_glyph false (n % 10) ∷ text) longer
    ]

pub plain-decimal : (n : ℕ) → All IsPlain (decimal n)
unfolding digits
plain-decimal n = plain_onto 64 n [] (All-nil IsPlain)

pub plain-signed_decimal : (z : ℤ) → All IsPlain (signed_decimal z)
plain-signed_decimal (pos n) = plain-decimal n
plain-signed_decimal (negsuc n) = All-cons IsPlain 45 (decimal (suc n)) (omega arith, omega arith) (plain-decimal (suc n))

plain-last_digits : (count n : ℕ) → All IsPlain (last_digits count n)
unfolding last_digits
plain-last_digits zero n = All-nil IsPlain
plain-last_digits (suc count) n =
    All-append IsPlain (last_digits count (n / 10)) ((48 + n % 10) ∷ []) (plain-last_digits count (n / 10))
    (All-cons IsPlain (48 + n % 10) [] (plain_digit n) (All-nil IsPlain))

plain-pointed : (decimals n : ℕ) → All IsPlain (pointed decimals n)
plain-pointed zero n = plain-decimal n
plain-pointed (suc decimals) n =
    All-append IsPlain (decimal (n / 10 ^ suc decimals)) (46 ∷ last_digits (suc decimals) n) (plain-decimal (n / 10 ^ suc decimals))
    (All-cons IsPlain 46 (last_digits (suc decimals) n) (omega arith, omega arith) (plain-last_digits (suc decimals) n))

pub plain-signed_pointed : (decimals : ℕ) (z : ℤ) → All IsPlain (signed_pointed decimals z)
plain-signed_pointed decimals (pos n) = plain-pointed decimals n
plain-signed_pointed decimals (negsuc n) = All-cons IsPlain 45 (pointed decimals (suc n)) (omega arith, omega arith) (plain-pointed decimals (suc n))

plain-date_digits : (year month day : ℕ) → All IsPlain (date_digits year month day)
plain-date_digits year month day =
    All-append IsPlain (last_digits 4 year ++ 45 ∷ last_digits 2 month) (45 ∷ last_digits 2 day)
    (All-append IsPlain (last_digits 4 year) (45 ∷ last_digits 2 month) (plain-last_digits 4 year) (All-cons IsPlain 45 (last_digits 2 month) (omega arith, omega arith) (plain-last_digits 2 month)))
    (All-cons IsPlain 45 (last_digits 2 day) (omega arith, omega arith) (plain-last_digits 2 day))

pub plain-date_text : (day : ℤ) → All IsPlain (date_text day)
unfolding date_text
plain-date_text day = plain-date_digits _ _ _
