-- The last digits of a number, and all of them.
use Rattle.std.proofs.Common.{◌≡◌, ℕ, zero, suc, ◌+◌, ◌-◌, ◌*◌, ◌/◌, ◌%◌, ◌^◌, ◌<◌, ◌≤◌, List, [], ◌∷◌, ◌++◌, length, drop, refl, sym, ap, ◌∙◌, append_assoc, append-nil, length-append, arith}
use Rattle.std.specs.Fmt.{decimal}
use Rattle.std.proofs.lemmas.Fmt.{decimal_digit, decimal_step}
use Rattle.std.proofs.Math.Nat.{pow-suc, one-le-pow, div-div-eq-div-mul}
use Rattle.std.proofs.Math.Seq.{drop-append_seam}
use Rattle.line_pages.specs.Pieces.{low_bytes}
use Rattle.line_pages.specs.Digits.{last_digits, HasDigits}
use Rattle.line_pages.proofs.LowBytesJoined.{low_bytes-join}

pub last_digits-zero : (n : ℕ) → last_digits 0 n ≡ []
unfolding last_digits
last_digits-zero n = refl

pub last_digits-suc : (count n : ℕ) → last_digits (suc count) n ≡ last_digits count (n / 10) ++ (48 + n % 10) ∷ []
unfolding last_digits
last_digits-suc count n = refl

pub length-last_digits : (count n : ℕ) → length (last_digits count n) ≡ count
length-last_digits zero n = ap length (last_digits-zero n)
length-last_digits (suc count) n =
    omega (
      arith,
      ap length (last_digits-suc count n),
      length-append (last_digits count (n / 10)) ((48 + n % 10) ∷ []),
      length-last_digits count (n / 10),
    )

-- the text of a number of four digits, its bytes joined
pub four_bytes : (n : ℕ) → n < 10000 →
    low_bytes 4 (48 + n / 1000 + (48 + n / 100 % 10) * 256 + (48 + n / 10 % 10) * 65536 + (48 + n % 10) * 16777216) ≡ last_digits 4 n
unfolding low_bytes last_digits
four_bytes n small =
    let word : ℕ = 48 + n / 1000 + (48 + n / 100 % 10) * 256 + (48 + n / 10 % 10) * 65536 + (48 + n % 10) * 16777216 in
    let one : word % 256 ≡ 48 + n / 10 / 10 / 10 % 10 = omega arith in
    let two : word / 256 % 256 ≡ 48 + n / 10 / 10 % 10 = omega arith in
    let three : word / 256 / 256 % 256 ≡ 48 + n / 10 % 10 = omega arith in
    let four : word / 256 / 256 / 256 % 256 ≡ 48 + n % 10 = omega arith in
    cc

-- eight digits are four and four
pub eight-last_digits : (n : ℕ) → last_digits 8 n ≡ last_digits 4 (n / 10000) ++ last_digits 4 (n % 10000)
unfolding last_digits
eight-last_digits n =
    let one : n / 10000 % 10 ≡ n / 10 / 10 / 10 / 10 % 10 = omega arith in
    let two : n / 10000 / 10 % 10 ≡ n / 10 / 10 / 10 / 10 / 10 % 10 = omega arith in
    let three : n / 10000 / 10 / 10 % 10 ≡ n / 10 / 10 / 10 / 10 / 10 / 10 % 10 = omega arith in
    let four : n / 10000 / 10 / 10 / 10 % 10 ≡ n / 10 / 10 / 10 / 10 / 10 / 10 / 10 % 10 = omega arith in
    let five : n % 10000 % 10 ≡ n % 10 = omega arith in
    let six : n % 10000 / 10 % 10 ≡ n / 10 % 10 = omega arith in
    let seven : n % 10000 / 10 / 10 % 10 ≡ n / 10 / 10 % 10 = omega arith in
    let eight : n % 10000 / 10 / 10 / 10 % 10 ≡ n / 10 / 10 / 10 % 10 = omega arith in
    cc

pub eight_bytes : (n high low : ℕ) → high < 2 ^ 32 → low_bytes 4 high ≡ last_digits 4 (n / 10000) → low_bytes 4 low ≡ last_digits 4 (n % 10000) →
    low_bytes 8 (high + low * 2 ^ 32) ≡ last_digits 8 n
eight_bytes n high low small first second =
    low_bytes-join 4 4 high low small
    ∙ ap (λ (bytes : List ℕ). bytes ++ low_bytes 4 low) first
    ∙ ap (λ (bytes : List ℕ). last_digits 4 (n / 10000) ++ bytes) second
    ∙ sym (eight-last_digits n)

-- the last of the last digits
pub last_digits-split : (a b n : ℕ) → last_digits (a + b) n ≡ last_digits a (n / 10 ^ b) ++ last_digits b n
last_digits-split a zero n =
    let same : n / 1 ≡ n = omega arith in
    let all : a + 0 ≡ a = omega arith in
    ap (λ (k : ℕ). last_digits k n) all
    ∙ sym (append-nil (last_digits a n))
    ∙ ap (λ (m : ℕ). last_digits a m ++ []) (sym same)
    ∙ ap (λ (none : List ℕ). last_digits a (n / 1) ++ none) (sym (last_digits-zero n))
last_digits-split a (suc b) n =
    let all : a + suc b ≡ suc (a + b) = omega arith in
    let up : 10 * 10 ^ b ≡ 10 ^ suc b = omega (arith, pow-suc 10 b) in
    let last : List ℕ = (48 + n % 10) ∷ [] in
    ap (λ (k : ℕ). last_digits k n) all
    ∙ last_digits-suc (a + b) n
    ∙ ap (λ (front : List ℕ). front ++ last) (last_digits-split a b (n / 10))
    ∙ append_assoc (last_digits a (n / 10 / 10 ^ b)) (last_digits b (n / 10)) last
    ∙ ap (λ (back : List ℕ). last_digits a (n / 10 / 10 ^ b) ++ back) (sym (last_digits-suc b n))
    ∙ ap (λ (m : ℕ). last_digits a m ++ last_digits (suc b) n) (div-div-eq-div-mul n 10 (10 ^ b) ∙ ap (λ (p : ℕ). n / p) up)

pub drop-last_digits : (a b n : ℕ) → drop a (last_digits (a + b) n) ≡ last_digits b n
drop-last_digits a b n =
    ap (drop a) (last_digits-split a b n)
    ∙ ap (λ (k : ℕ). drop k (last_digits a (n / 10 ^ b) ++ last_digits b n)) (sym (length-last_digits a (n / 10 ^ b)))
    ∙ drop-append_seam (last_digits a (n / 10 ^ b)) (last_digits b n)

-- the last of eight
pub drop-eight : (count n : ℕ) → count ≤ 8 → drop (8 - count) (last_digits 8 n) ≡ last_digits count n
drop-eight count n few =
    let all : 8 ≡ 8 - count + count = omega arith in
    ap (λ (k : ℕ). drop (8 - count) (last_digits k n)) all ∙ drop-last_digits (8 - count) count n

-- digits before the last eight don't count among them
pub last_eight : (n : ℕ) → last_digits 8 (n % 100000000) ≡ last_digits 8 n
unfolding last_digits
last_eight n =
    let one : n % 100000000 % 10 ≡ n % 10 = omega arith in
    let two : n % 100000000 / 10 % 10 ≡ n / 10 % 10 = omega arith in
    let three : n % 100000000 / 10 / 10 % 10 ≡ n / 10 / 10 % 10 = omega arith in
    let four : n % 100000000 / 10 / 10 / 10 % 10 ≡ n / 10 / 10 / 10 % 10 = omega arith in
    let five : n % 100000000 / 10 / 10 / 10 / 10 % 10 ≡ n / 10 / 10 / 10 / 10 % 10 = omega arith in
    let six : n % 100000000 / 10 / 10 / 10 / 10 / 10 % 10 ≡ n / 10 / 10 / 10 / 10 / 10 % 10 = omega arith in
    let seven : n % 100000000 / 10 / 10 / 10 / 10 / 10 / 10 % 10 ≡ n / 10 / 10 / 10 / 10 / 10 / 10 % 10 = omega arith in
    let eight : n % 100000000 / 10 / 10 / 10 / 10 / 10 / 10 / 10 % 10 ≡ n / 10 / 10 / 10 / 10 / 10 / 10 / 10 % 10 = omega arith in
    cc

-- nine are one and eight
pub nine-last_digits : (n : ℕ) → last_digits 9 n ≡ (48 + n / 100000000 % 10) ∷ last_digits 8 n
nine-last_digits n =
    last_digits-split 1 8 n
    ∙ ap (λ (one : List ℕ). one ++ last_digits 8 n) (last_digits-suc 0 (n / 10 ^ 8))
    ∙ ap (λ (none : List ℕ). (none ++ (48 + n / 100000000 % 10) ∷ []) ++ last_digits 8 n) (last_digits-zero (n / 10 ^ 8 / 10))

-- a number of so many digits is that many of its last digits
pub decimal-last_digits : (count n : ℕ) → HasDigits n count → n < 2 ^ 64 → decimal n ≡ last_digits count n
decimal-last_digits zero n has small = absurd (omega (arith, has.some))
decimal-last_digits (suc zero) n has small =
    let lone : n < 10 = has.few in
    let same : n % 10 ≡ n = omega arith in
    decimal_digit n lone
    ∙ ap (λ (digit : ℕ). (48 + digit) ∷ []) (sym same)
    ∙ ap (λ (none : List ℕ). none ++ (48 + n % 10) ∷ []) (sym (last_digits-zero (n / 10)))
    ∙ sym (last_digits-suc 0 n)
decimal-last_digits (suc (suc count)) n has small =
    let few : n < 10 ^ suc (suc count) = has.few in
    let fewer : suc (suc count) - 1 ≡ suc count = omega arith in
    let many : 10 ^ suc count ≤ n = rw fewer at (has.many (omega arith)) in
    let less = pow-suc 10 count in
    let more = pow-suc 10 (suc count) in
    let some : 1 ≤ 10 ^ count = one-le-pow count 10 (omega arith) in
    let rest : HasDigits (n / 10) (suc count) = record {
      some = omega arith;
      few = omega arith;
      many = λ two. let one : suc count - 1 ≡ count = omega arith in rw one (omega arith);
    } in
    decimal_step n (omega arith) small
    ∙ ap (λ (front : List ℕ). front ++ (48 + n % 10) ∷ []) (decimal-last_digits (suc count) (n / 10) rest (omega arith))
    ∙ sym (last_digits-suc (suc count) n)

-- a number is its last digits after the number that is left without them
pub decimal-split : (k n : ℕ) → 10 ^ k ≤ n → n < 2 ^ 64 → decimal n ≡ decimal (n / 10 ^ k) ++ last_digits k n
decimal-split zero n large small =
    let same : n / 1 ≡ n = omega arith in
    sym (append-nil (decimal n))
    ∙ ap (λ (m : ℕ). decimal m ++ []) (sym same)
    ∙ ap (λ (none : List ℕ). decimal (n / 1) ++ none) (sym (last_digits-zero n))
decimal-split (suc k) n large small =
    let up = pow-suc 10 k in
    let some : 1 ≤ 10 ^ k = one-le-pow k 10 (omega arith) in
    let same : 10 * 10 ^ k ≡ 10 ^ suc k = omega arith in
    let last : List ℕ = (48 + n % 10) ∷ [] in
    decimal_step n (omega arith) small
    ∙ ap (λ (front : List ℕ). front ++ last) (decimal-split k (n / 10) (omega arith) (omega arith))
    ∙ append_assoc (decimal (n / 10 / 10 ^ k)) (last_digits k (n / 10)) last
    ∙ ap (λ (back : List ℕ). decimal (n / 10 / 10 ^ k) ++ back) (sym (last_digits-suc k n))
    ∙ ap (λ (m : ℕ). decimal m ++ last_digits (suc k) n) (div-div-eq-div-mul n 10 (10 ^ k) ∙ ap (λ (p : ℕ). n / p) same)

pub length-split : (k n : ℕ) → 10 ^ k ≤ n → n < 2 ^ 64 → length (decimal n) ≡ length (decimal (n / 10 ^ k)) + k
length-split k n large small =
    omega (
      arith,
      ap length (decimal-split k n large small),
      length-append (decimal (n / 10 ^ k)) (last_digits k n),
      length-last_digits k n,
    )
