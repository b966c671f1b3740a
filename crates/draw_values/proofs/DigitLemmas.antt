-- The last digits of a number, and numbers with a point.
use Rattle.std.proofs.Common.{◌≡◌, ◌<◌, ◌≤◌, ℕ, zero, suc, ◌+◌, ◌-◌, ◌*◌, ◌/◌, ◌%◌, ◌^◌, List, [], ◌∷◌, ◌++◌, decimal, length, refl, ap, sym, ◌∙◌, append_assoc, length-append, arith}
use Rattle.std.proofs.lemmas.Fmt.{length-decimal-le}
use Rattle.std.proofs.lemmas.Nat.{div_below, pow-add}
use Rattle.std.proofs.Math.Nat.{one-le-pow}
use Rattle.line_pages.specs.Digits.{last_digits}
use Rattle.draw_values.specs.Digits.{pointed}

pub last_digits-zero : (n : ℕ) → last_digits 0 n ≡ []
unfolding last_digits
last_digits-zero n = refl

last_digits-suc : (count n : ℕ) → last_digits (suc count) n ≡ last_digits count (n / 10) ++ (48 + n % 10) ∷ []
unfolding last_digits
last_digits-suc count n = refl

pub length-last_digits : (count n : ℕ) → length (last_digits count n) ≡ count
length-last_digits zero n = ap length (last_digits-zero n)
length-last_digits (suc count) n =
    omega (
      arith,
      ap length (last_digits-suc count n),
      length-append (last_digits count (n / 10)) ((48 + n % 10) ∷ []),
      length-last_digits count (n / 10),
    )

-- the last digit moves into the text after it
last_digits-before : (count n : ℕ) (text : List ℕ) → last_digits (suc count) n ++ text ≡ last_digits count (n / 10) ++ (48 + n % 10) ∷ text
last_digits-before count n text =
    ap (λ (digits : List ℕ). digits ++ text) (last_digits-suc count n)
    ∙ append_assoc (last_digits count (n / 10)) ((48 + n % 10) ∷ []) text

-- while a loop moves one digit after the other: `left` of them aren't moved yet
pub digit_moves : (left n : ℕ) (text longer whole : List ℕ) → 0 < left → last_digits left n ++ text ≡ whole → longer ≡ (48 + n % 10) ∷ text →
    last_digits (left - 1) (n / 10) ++ longer ≡ whole
digit_moves zero n text longer whole some so_far is = absurd (omega arith)
digit_moves (suc left) n text longer whole some so_far is =
    let fewer : suc left - 1 ≡ left = omega arith in
    ap (λ (count : ℕ). last_digits count (n / 10) ++ longer) fewer
    ∙ ap (λ (t : List ℕ). last_digits left (n / 10) ++ t) is
    ∙ sym (last_digits-before left n text)
    ∙ so_far

pub all_moved : (left n : ℕ) (text whole : List ℕ) → left ≡ 0 → last_digits left n ++ text ≡ whole → text ≡ whole
all_moved left n text whole none so_far =
    sym (ap (λ (digits : List ℕ). digits ++ text) (ap (λ (count : ℕ). last_digits count n) none ∙ last_digits-zero n)) ∙ so_far

-- such digits, and a byte after them
pub length-fraction : (count n : ℕ) (fraction behind : List ℕ) → fraction ≡ last_digits count n ++ behind → length behind ≡ 1 → length fraction ≡ count + 1
length-fraction count n fraction behind is one =
    omega (arith, ap length is, length-append (last_digits count n) behind, length-last_digits count n, one)

-- with a point where there are decimals, and none where there are none
pub pointed-some : (decimals n : ℕ) → 0 < decimals → pointed decimals n ≡ decimal (n / 10 ^ decimals) ++ 46 ∷ last_digits decimals n
pointed-some zero n some = absurd (omega arith)
pointed-some (suc decimals) n some = refl

pub pointed-none : (decimals n : ℕ) → decimals ≤ 0 → pointed decimals n ≡ decimal (n / 10 ^ decimals)
pointed-none zero n none = let same : n ≡ n / 1 = omega arith in ap decimal same
pointed-none (suc decimals) n none = absurd (omega arith)

-- what stands before the point, with as many digits after it, has 19 digits at most
pub length-before_point : (decimals n : ℕ) → decimals ≤ 9 → n ≤ 2 ^ 63 → length (decimal (n / 10 ^ decimals)) + decimals ≤ 19
length-before_point decimals n few small =
    let all : 19 - decimals + decimals ≡ 19 = omega arith in
    let split : 10 ^ (19 - decimals) * 10 ^ decimals ≡ 10 ^ 19 = sym (pow-add 10 (19 - decimals) decimals) ∙ ap (λ (e : ℕ). 10 ^ e) all in
    let some : 0 < 10 ^ decimals = one-le-pow decimals 10 (omega arith) in
    let within : n < 10 ^ (19 - decimals) * 10 ^ decimals = omega (arith, split) in
    let below : n / 10 ^ decimals < 10 ^ (19 - decimals) = div_below n (10 ^ decimals) (10 ^ (19 - decimals)) some within in
    let less : n / 10 ^ decimals ≤ n = omega arith in
    omega (arith, length-decimal-le (19 - decimals) (n / 10 ^ decimals) (omega arith) below (omega arith))

pub length-pointed : (decimals n : ℕ) → decimals ≤ 9 → n ≤ 2 ^ 63 → length (pointed decimals n) ≤ 20
length-pointed zero n few small = length-decimal-le 20 n (omega arith) (omega arith) (omega arith)
length-pointed (suc decimals) n few small =
    omega (
      arith,
      length-before_point (suc decimals) n few small,
      length-append (decimal (n / 10 ^ suc decimals)) (46 ∷ last_digits (suc decimals) n),
      length-last_digits (suc decimals) n,
    )
