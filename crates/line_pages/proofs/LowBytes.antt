-- The lowest bytes of a number.
use Rattle.std.proofs.Common.{◌≡◌, ℕ, zero, suc, ◌+◌, ◌*◌, ◌/◌, ◌%◌, ◌^◌, ◌<◌, ◌≤◌, List, [], ◌∷◌, ◌++◌, length, take, refl, sym, ap, ◌∙◌, add-one, arith, lit<, w64}
use Rattle.std.specs.Int.{to_le_bytes}
use Rattle.std.proofs.lemmas.Nat.{div-mul-add, mod-mul-add}
use Rattle.std.proofs.Math.Nat.{pow-suc, pow-le-pow_right}
use Rattle.line_pages.specs.Pieces.{low_bytes}

pub low_bytes-zero : (n : ℕ) → low_bytes 0 n ≡ []
unfolding low_bytes
low_bytes-zero n = refl

pub low_bytes-suc : (k n : ℕ) → low_bytes (suc k) n ≡ n % 256 ∷ low_bytes k (n / 256)
unfolding low_bytes
low_bytes-suc k n = refl

pub length-low_bytes : (k n : ℕ) → length (low_bytes k n) ≡ k
length-low_bytes zero n = ap length (low_bytes-zero n)
length-low_bytes (suc k) n = ap length (low_bytes-suc k n) ∙ ap suc (length-low_bytes k (n / 256))

-- a byte below the others
pub low_bytes-prepend : (k n byte : ℕ) → byte < 256 → low_bytes (k + 1) (n * 256 + byte) ≡ byte ∷ low_bytes k n
low_bytes-prepend k n byte small =
    ap (λ (j : ℕ). low_bytes j (n * 256 + byte)) (add-one k)
    ∙ low_bytes-suc k (n * 256 + byte)
    ∙ ap (λ (x : ℕ). x ∷ low_bytes k ((n * 256 + byte) / 256)) (mod-mul-add n 256 byte small)
    ∙ ap (λ (x : ℕ). byte ∷ low_bytes k x) (div-mul-add n 256 byte small)

pub fits-prepend : (k n byte : ℕ) → byte < 256 → n < 256 ^ k → n * 256 + byte < 256 ^ (k + 1)
fits-prepend k n byte small fits =
    let more : 256 ^ (k + 1) ≡ 256 ^ k * 256 = ap (λ (j : ℕ). 256 ^ j) (add-one k) ∙ pow-suc 256 k in
    omega arith

-- fewer than 16 bytes leave room for one more
pub room-prepend : (k n : ℕ) → k < 16 → n < 256 ^ k → n < 256 ^ 15
room-prepend k n short fits =
    let most : 256 ^ k ≤ 256 ^ 15 = pow-le-pow_right {n = 256} (lit< tt) {i = k} {j = 15} (omega arith) in
    omega arith

pub take-low_bytes : (n k word : ℕ) → n ≤ k → take n (low_bytes k word) ≡ low_bytes n word
take-low_bytes zero k word within = sym (low_bytes-zero word)
take-low_bytes (suc n) zero word within = absurd (omega arith)
take-low_bytes (suc n) (suc k) word within =
    ap (take (suc n)) (low_bytes-suc k word)
    ∙ ap (λ (bytes : List ℕ). word % 256 ∷ bytes) (take-low_bytes n k (word / 256) (omega arith))
    ∙ sym (low_bytes-suc n word)

-- eight bytes of a number, by powers of 256 and by halving its digits
to_le_bytes-low_bytes : (n : ℕ) → to_le_bytes w64 n ≡ low_bytes 8 n
unfolding low_bytes
to_le_bytes-low_bytes n =
    let two : n / 65536 % 256 ≡ n / 256 / 256 % 256 = omega arith in
    let three : n / 16777216 % 256 ≡ n / 256 / 256 / 256 % 256 = omega arith in
    let four : n / 4294967296 % 256 ≡ n / 256 / 256 / 256 / 256 % 256 = omega arith in
    let five : n / 1099511627776 % 256 ≡ n / 256 / 256 / 256 / 256 / 256 % 256 = omega arith in
    let six : n / 281474976710656 % 256 ≡ n / 256 / 256 / 256 / 256 / 256 / 256 % 256 = omega arith in
    let seven : n / 72057594037927936 % 256 ≡ n / 256 / 256 / 256 / 256 / 256 / 256 / 256 % 256 = omega arith in
    cc

low_bytes-both : (word : ℕ) → low_bytes 8 (word % 2 ^ 64) ++ low_bytes 8 (word / 2 ^ 64) ≡ low_bytes 16 word
unfolding low_bytes
low_bytes-both word =
    let zero' : word % 18446744073709551616 % 256 ≡ word % 256 = omega arith in
    let one : word % 18446744073709551616 / 256 % 256 ≡ word / 256 % 256 = omega arith in
    let two : word % 18446744073709551616 / 256 / 256 % 256 ≡ word / 256 / 256 % 256 = omega arith in
    let three : word % 18446744073709551616 / 256 / 256 / 256 % 256 ≡ word / 256 / 256 / 256 % 256 = omega arith in
    let four : word % 18446744073709551616 / 256 / 256 / 256 / 256 % 256 ≡ word / 256 / 256 / 256 / 256 % 256 = omega arith in
    let five : word % 18446744073709551616 / 256 / 256 / 256 / 256 / 256 % 256 ≡ word / 256 / 256 / 256 / 256 / 256 % 256 = omega arith in
    let six : word % 18446744073709551616 / 256 / 256 / 256 / 256 / 256 / 256 % 256 ≡ word / 256 / 256 / 256 / 256 / 256 / 256 % 256 = omega arith in
    let seven : word % 18446744073709551616 / 256 / 256 / 256 / 256 / 256 / 256 / 256 % 256 ≡ word / 256 / 256 / 256 / 256 / 256 / 256 / 256 % 256 = omega arith in
    let eight : word / 18446744073709551616 ≡ word / 256 / 256 / 256 / 256 / 256 / 256 / 256 / 256 = omega arith in
    cc

-- the bytes of the two halves of a word
pub low_bytes-halves : (word : ℕ) → to_le_bytes w64 (word % 2 ^ 64) ++ to_le_bytes w64 (word / 2 ^ 64) ≡ low_bytes 16 word
low_bytes-halves word =
    ap (λ (low : List ℕ). low ++ to_le_bytes w64 (word / 2 ^ 64)) (to_le_bytes-low_bytes (word % 2 ^ 64))
    ∙ ap (λ (high : List ℕ). low_bytes 8 (word % 2 ^ 64) ++ high) (to_le_bytes-low_bytes (word / 2 ^ 64))
    ∙ low_bytes-both word
