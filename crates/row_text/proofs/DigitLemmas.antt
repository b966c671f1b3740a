-- Digits stand for themselves.
use Rattle.std.proofs.Common.{◌≡◌, ◌<◌, ◌^◌, ℕ, List, [], ◌∷◌, ◌++◌, decimal, refl, ap, ◌∙◌}
use Rattle.std.specs.List.{flat_map}
use Rattle.std.specs.Str.Parse.{AllDigits}
use Rattle.std.proofs.lemmas.Fmt.{decimal_is_IsNumeral}
use Rattle.std.proofs.lemmas.List.Concat.{flat_map-cons}
use Rattle.std.proofs.lemmas.Str.Parse.{tells_digits}
use Rattle.row_text.specs.Fields.{escaped, escaped_text}
use Rattle.row_text.proofs.EscapeLemmas.{escaped-digit}

escaped_text-digits : (delimiter : ℕ) (bytes : List ℕ) → AllDigits 10 bytes → escaped_text delimiter bytes ≡ bytes
escaped_text-digits delimiter [] digits = refl
escaped_text-digits delimiter (byte ∷ bytes) digits =
    let parts = tells_digits.parts byte bytes digits in
    flat_map-cons (escaped delimiter) byte bytes
    ∙ ap (λ (own : List ℕ). own ++ flat_map (escaped delimiter) bytes) (escaped-digit delimiter byte parts.0)
    ∙ ap (λ (rest : List ℕ). byte ∷ rest) (escaped_text-digits delimiter bytes parts.1)

-- a number of 64 bits
pub escaped_text-decimal : (delimiter number : ℕ) → number < 2 ^ 64 → escaped_text delimiter (decimal number) ≡ decimal number
escaped_text-decimal delimiter number small = escaped_text-digits delimiter (decimal number) ((decimal_is_IsNumeral number small).0.1)
