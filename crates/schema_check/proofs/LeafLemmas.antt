-- What the rules ask of drawn values, as the code asks it.
use Rattle.std.proofs.Common.{◌≡◌, ◌∙◌, ◌^◌, ◌-◌, ℤ, pos, negsuc, neg_ℤ, ◌+ℤ◌, ◌-ℤ◌, ◌≤ℤ◌, ◌&&◌, true, FitsSigned, w64, Option, Some, None, is_some, int_le, refl, sym, ap, arith}
use Rattle.std.specs.Option.{SomeIff}
use Rattle.std.proofs.lemmas.Bool.{false_from_ne_true, le-leb, leb-true}
use Rattle.std.proofs.lemmas.Int.{ints}
use Rattle.schema_plan.specs.Rules.{is_range}
use Rattle.schema_check.proofs.FromTests.{le_from_test}

-- a number that isn't below the least of 64 bits is one of them where it isn't past the greatest
is_some-fits : (z : ℤ) (result : Option ℤ) → neg_ℤ (pos (2 ^ 63)) ≤ℤ z → SomeIff result (FitsSigned w64 z) z → is_some result ≡ int_le z (pos (2 ^ 63 - 1))
is_some-fits (pos n) (Some x) least h = sym (le-leb n (2 ^ 63 - 1) (omega (arith, h.0.sfits)))
is_some-fits (pos n) None least h =
    sym (false_from_ne_true (int_le (pos n) (pos (2 ^ 63 - 1))) (λ within. h (record { sfits = omega (arith, leb-true n (2 ^ 63 - 1) within) })))
is_some-fits (negsuc n) (Some x) least h = refl
is_some-fits (negsuc n) None least h = absurd (h (record { sfits = omega (arith, ints) }))

-- the difference of a range is a number of 64 bits
pub is_range-checked : (lo hi : ℤ) (result : Option ℤ) → int_le lo hi ≡ true → SomeIff result (FitsSigned w64 (hi -ℤ lo)) (hi -ℤ lo) → is_some result ≡ is_range lo hi
is_range-checked lo hi result ordered h =
    let up : lo ≤ℤ hi = le_from_test lo hi ordered in
    is_some-fits (hi -ℤ lo) result (omega (arith, ints)) h
    ∙ ap (λ test. test && int_le (hi -ℤ lo) (pos (2 ^ 63 - 1))) (sym ordered)

-- a sum with a number that isn't below 0 is a number of 64 bits where it isn't past the greatest
pub is_some-sum : (lo more : ℤ) (result : Option ℤ) → FitsSigned w64 lo → pos 0 ≤ℤ more → SomeIff result (FitsSigned w64 (lo +ℤ more)) (lo +ℤ more) → is_some result ≡ int_le (lo +ℤ more) (pos (2 ^ 63 - 1))
is_some-sum lo more result fits up h = is_some-fits (lo +ℤ more) result (omega (arith, ints)) h
