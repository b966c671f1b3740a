use Rattle.std.proofs.Common.{◌≡◌, ◌<◌, ◌^◌, ℕ, true, List, length, Result, Option, Some, None, Ok, Err, false, ◌==◌, if◌then◌else◌, refl, ap, sym, ◌∙◌, ◌≤◌, arith, rules}
use Rattle.std.specs.Char.{is_ascii_digit}
use Rattle.std.specs.List.{list_all}
use Rattle.std.specs.Result.{OkIff, result_ok}
use Rattle.std.specs.Str.Parse.{digits_value}
use Rattle.std.proofs.lemmas.Bool.Decides.{nat_tests}
use Rattle.std.proofs.lemmas.Str.Parse.{IsNumeralModel, numerals_by_value, parse_digits}
use Rattle.request_words.specs.Options.{is_number}
use Rattle.request_words.proofs.numbers.read_number.Goals as goal

abbrev number : List ℕ → Option ℕ
number digits = if is_number digits then Some (digits_value 10 digits) else None

own : IsNumeralModel (λ ds. list_all is_ascii_digit ds ≡ true) (digits_value 10)
own = numerals_by_value _ (search rules)

goes_on : (bs : List ℕ) (v : ℕ) → digits_value 10 bs ≡ v → list_all is_ascii_digit bs ≡ true → 0 < length bs → length bs ≤ 20 → v < 2 ^ 64 → number bs ≡ Some v
goes_on bs v is digits some few below = grind (arith, nat_tests)

too_large : (bs : List ℕ) (v : ℕ) → digits_value 10 bs ≡ v → (v < 2 ^ 64 → ⊥) → number bs ≡ None
too_large bs v is above = grind (arith, nat_tests)

number_from_parse : {E : Type 0} (bs : List ℕ) (r : Result ℕ E) → list_all is_ascii_digit bs ≡ true → 0 < length bs → length bs ≤ 20 →
    OkIff r ((0 < length bs) × (digits_value 10 bs < 2 ^ 64)) (digits_value 10 bs) → result_ok r ≡ number bs
number_from_parse bs (Ok x) digits some few gives = ap Some gives.1 ∙ sym (goes_on bs (digits_value 10 bs) refl digits some few gives.0.1)
number_from_parse bs (Err e) digits some few gives = sym (too_large bs (digits_value 10 bs) refl (λ below. gives (some, below)))

pub returns : goal.returns
returns c =
    let digits : list_all is_ascii_digit c.args.word.now ≡ true = cc in
    let some : 0 < length c.args.word.now = let empty : (length c.args.word.now == 0) ≡ false = cc in grind (arith, nat_tests) in
    let few : length c.args.word.now ≤ 20 = omega arith in
    c.ok.ensures.value ∙ number_from_parse c.args.word.now c.parse.result digits some few (parse_digits own 64 c.args.word.now c.parse.result c.parse.ensures.value.0 digits)
