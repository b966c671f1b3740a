-- Numbers whose texts are short.
use Rattle.std.proofs.Common.{◌≡◌, ◌<◌, ◌≤◌, ℕ, ℤ, pos, neg_ℤ, negsuc, w64, to_z, of_z, Bool, true, false, ◌&&◌, refl, ◌+◌, ◌-◌, ◌*◌, ◌/◌, ◌^◌, ◌+ℤ◌, ◌≤ℤ◌, decimal, length, ap, sym, ◌∙◌, arith}
use Rattle.std.specs.Prelude.{unsigned_abs}
use Rattle.std.specs.Int.Signed.{mag}
use Rattle.std.proofs.lemmas.Fmt.{length-decimal-le}
use Rattle.std.proofs.lemmas.Int.{fits_signed_from_abs, ints, to_z-of_z}
use Rattle.std.proofs.lemmas.Nat.{div_below, pow-add}
use Rattle.std.proofs.Math.Nat.{one-le-pow}
use borrow.Author.Tests.{ltb-true}
use Rattle.draw_values.specs.Runs.{is_short_number}

pub short_number : (number : ℤ) → is_short_number number ≡ true → unsigned_abs number < 10 ^ 13
short_number number short = ltb-true (unsigned_abs number) (10 ^ 13) short

-- a number between two short ones
pub short_between : (lo hi value : ℤ) → is_short_number lo ≡ true → is_short_number hi ≡ true → lo ≤ℤ value → value ≤ℤ hi → unsigned_abs value < 10 ^ 13
short_between lo hi value short_lo short_hi least greatest =
    let low = short_number lo short_lo in
    let high = short_number hi short_hi in
    omega (arith, ints)

-- a number a little past a short one
pub short_past : (lo : ℤ) (past : ℕ) → is_short_number lo ≡ true → past < 4096 → unsigned_abs (lo +ℤ pos past) + 1 < 10 ^ 14
short_past lo past short few =
    let low = short_number lo short in
    omega (arith, ints)

-- what stands before the point of a short number, with as many digits after it
pub length-before_short_point : (decimals n : ℕ) → decimals ≤ 9 → n < 10 ^ 13 → length (decimal (n / 10 ^ decimals)) + decimals ≤ 13
length-before_short_point decimals n few small =
    let all : 13 - decimals + decimals ≡ 13 = omega arith in
    let split : 10 ^ (13 - decimals) * 10 ^ decimals ≡ 10 ^ 13 = sym (pow-add 10 (13 - decimals) decimals) ∙ ap (λ (e : ℕ). 10 ^ e) all in
    let some : 0 < 10 ^ decimals = one-le-pow decimals 10 (omega arith) in
    let within : n < 10 ^ (13 - decimals) * 10 ^ decimals = omega (arith, split) in
    let below : n / 10 ^ decimals < 10 ^ (13 - decimals) = div_below n (10 ^ decimals) (10 ^ (13 - decimals)) some within in
    let less : n / 10 ^ decimals ≤ n = omega arith in
    omega (arith, length-decimal-le (13 - decimals) (n / 10 ^ decimals) (omega arith) below (omega arith))

pub mag_within : (number : ℤ) → mag number ≤ unsigned_abs number
mag_within (pos n) = omega arith
mag_within (negsuc n) = omega arith

-- a short number passes as an argument
pub back : (number : ℤ) → unsigned_abs number < 10 ^ 14 → to_z w64 (of_z w64 number) ≡ number
back number short = to_z-of_z w64 number (fits_signed_from_abs w64 number (omega arith))

-- so does a day
pub day_back : (lo hi day : ℤ) → neg_ℤ (pos 719162) ≤ℤ lo → lo ≤ℤ day → day ≤ℤ hi → hi ≤ℤ pos 2932896 → to_z w64 (of_z w64 day) ≡ day
day_back lo hi day first least greatest last = back day (omega (arith, ints))

both_short : (first second : Bool) → (first && second) ≡ true → (first ≡ true) × (second ≡ true)
both_short true second short = (refl, short)
both_short false second short = absurd (cc)

-- two numbers that are both short pass as arguments
pub both_back : (lo hi : ℤ) → (is_short_number lo && is_short_number hi) ≡ true → (to_z w64 (of_z w64 lo) ≡ lo) × (to_z w64 (of_z w64 hi) ≡ hi)
both_back lo hi short =
    let firsts = both_short (is_short_number lo) (is_short_number hi) short in
    (back lo (omega (arith, short_number lo firsts.0)), back hi (omega (arith, short_number hi firsts.1)))
