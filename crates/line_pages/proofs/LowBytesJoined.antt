-- The lowest bytes of numbers that are put together, and of one that is cut.
use Rattle.std.proofs.Common.{◌≡◌, ℕ, zero, suc, ◌+◌, ◌-◌, ◌*◌, ◌/◌, ◌%◌, ◌^◌, ◌<◌, ◌≤◌, List, [], ◌∷◌, ◌++◌, drop, length, refl, sym, ap, ◌∙◌, subst, arith, lit<}
use Rattle.std.proofs.lemmas.List.{drop-append-le}
use Rattle.std.proofs.lemmas.Nat.{div_below, pow-add}
use Rattle.std.proofs.Math.Nat.{pow-suc, one-le-pow, pow-le-pow_right, mul_assoc, div-div-eq-div-mul, mul-le-mul_left}
use Rattle.std.proofs.Math.Pow.{shl_exact}
use Rattle.line_pages.specs.Pieces.{low_bytes}
use Rattle.line_pages.proofs.LowBytes.{low_bytes-zero, low_bytes-suc, length-low_bytes}

pow-next : (y a : ℕ) → y * 256 ^ suc a ≡ y * 256 ^ a * 256
pow-next y a = ap (λ (p : ℕ). y * p) (pow-suc 256 a) ∙ sym (mul_assoc y (256 ^ a) 256)

-- the bytes of x, and after them those of y
pub low_bytes-join : (a b x y : ℕ) → x < 256 ^ a → low_bytes (a + b) (x + y * 256 ^ a) ≡ low_bytes a x ++ low_bytes b y
low_bytes-join zero b x y small =
    let same : x + y * 1 ≡ y = omega arith in
    let none : 0 + b ≡ b = omega arith in
    rw (none, same) (ap (λ (front : List ℕ). front ++ low_bytes b y) (sym (low_bytes-zero x)))
low_bytes-join (suc a) b x y small =
    let up : 256 ^ suc a ≡ 256 ^ a * 256 = pow-suc 256 a in
    let all : suc a + b ≡ suc (a + b) = omega arith in
    let high : y * 256 ^ suc a ≡ y * 256 ^ a * 256 = pow-next y a in
    let byte : (x + y * 256 ^ suc a) % 256 ≡ x % 256 = omega arith in
    let rest : (x + y * 256 ^ suc a) / 256 ≡ x / 256 + y * 256 ^ a = omega arith in
    let less : x / 256 < 256 ^ a = omega arith in
    ap (λ (k : ℕ). low_bytes k (x + y * 256 ^ suc a)) all
    ∙ low_bytes-suc (a + b) (x + y * 256 ^ suc a)
    ∙ ap (λ (first : ℕ). first ∷ low_bytes (a + b) ((x + y * 256 ^ suc a) / 256)) byte
    ∙ ap (λ (n : ℕ). x % 256 ∷ low_bytes (a + b) n) rest
    ∙ ap (λ (bytes : List ℕ). x % 256 ∷ bytes) (low_bytes-join a b (x / 256) y less)
    ∙ ap (λ (bytes : List ℕ). bytes ++ low_bytes b y) (sym (low_bytes-suc a x))

-- joined numbers have no more bytes than both
pub join-fits : (a b x y : ℕ) → x < 256 ^ a → y < 256 ^ b → x + y * 256 ^ a < 256 ^ (a + b)
join-fits a b x y small few =
    let both : 256 ^ (a + b) ≡ 256 ^ a * 256 ^ b = pow-add 256 a b in
    let turned : 256 ^ a * suc y ≡ y * 256 ^ a + 256 ^ a = omega arith in
    let most : 256 ^ a * suc y ≤ 256 ^ a * 256 ^ b = mul-le-mul_left (256 ^ a) few in
    omega arith

-- what is left of the bytes without the first ones
pub drop-low_bytes : (j k n : ℕ) → drop j (low_bytes (j + k) n) ≡ low_bytes k (n / 256 ^ j)
drop-low_bytes zero k n =
    let same : n / 1 ≡ n = omega arith in
    let none : 0 + k ≡ k = omega arith in
    rw (none, same) refl
drop-low_bytes (suc j) k n =
    let all : suc j + k ≡ suc (j + k) = omega arith in
    let up : 256 * 256 ^ j ≡ 256 ^ suc j = omega (arith, pow-suc 256 j) in
    ap (λ (count : ℕ). drop (suc j) (low_bytes count n)) all
    ∙ ap (drop (suc j)) (low_bytes-suc (j + k) n)
    ∙ drop-low_bytes j k (n / 256)
    ∙ ap (low_bytes k) (div-div-eq-div-mul n 256 (256 ^ j) ∙ ap (λ (p : ℕ). n / p) up)

-- and how large it is
pub drop-fits : (j k n : ℕ) → n < 256 ^ (j + k) → n / 256 ^ j < 256 ^ k
drop-fits j k n small =
    let both : 256 ^ (j + k) ≡ 256 ^ j * 256 ^ k = pow-add 256 j k in
    let turned : 256 ^ j * 256 ^ k ≡ 256 ^ k * 256 ^ j = omega arith in
    div_below n (256 ^ j) (256 ^ k) (one-le-pow j 256 (omega arith)) (omega arith)

-- a shift by bytes
pub pow-bytes : (j : ℕ) → 2 ^ (8 * j) ≡ 256 ^ j
pow-bytes zero = refl
pow-bytes (suc j) =
    let more : 8 * suc j ≡ 8 * j + 8 = omega arith in
    ap (λ (k : ℕ). 2 ^ k) more
    ∙ pow-add 2 (8 * j) 8
    ∙ ap (λ (p : ℕ). p * 256) (pow-bytes j)
    ∙ sym (pow-suc 256 j)

-- of 16 bytes none is shifted out where both numbers fit
pub shift-bytes : (a b y : ℕ) → y < 256 ^ b → a + b ≤ 16 → y * 2 ^ (8 * a) % 2 ^ 128 ≡ y * 256 ^ a
shift-bytes a b y few room =
    let small : y < 2 ^ (8 * b) = rw (pow-bytes b) few in
    shl_exact (8 * b) (8 * a) 128 small (omega arith) ∙ ap (λ (p : ℕ). y * p) (pow-bytes a)

bytes-fit : (k n : ℕ) → k ≤ 16 → n < 256 ^ k → n < 2 ^ 128
bytes-fit k n few small =
    let most : 256 ^ k ≤ 256 ^ 16 = pow-le-pow_right (lit< tt) few in
    omega arith

-- the bytes of y shifted after those of x
shifted : (a b x y : ℕ) → y < 256 ^ b → a + b ≤ 16 → x + y * 2 ^ (8 * a) % 2 ^ 128 ≡ x + y * 256 ^ a
shifted a b x y few room = ap (λ (z : ℕ). x + z) (shift-bytes a b y few room)

pub shifted-fits : (a b x y : ℕ) → x < 256 ^ a → y < 256 ^ b → a + b ≤ 16 → x + y * 2 ^ (8 * a) % 2 ^ 128 < 256 ^ (a + b)
shifted-fits a b x y small few room = rw (shifted a b x y few room) (join-fits a b x y small few)

pub shifted-below : (a b x y : ℕ) → x < 256 ^ a → y < 256 ^ b → a + b ≤ 16 → x + y * 2 ^ (8 * a) % 2 ^ 128 < 2 ^ 128
shifted-below a b x y small few room = bytes-fit (a + b) (x + y * 2 ^ (8 * a) % 2 ^ 128) room (shifted-fits a b x y small few room)

pub low_bytes-shifted : (a b x y : ℕ) → x < 256 ^ a → y < 256 ^ b → a + b ≤ 16 →
    low_bytes (a + b) (x + y * 2 ^ (8 * a) % 2 ^ 128) ≡ low_bytes a x ++ low_bytes b y
low_bytes-shifted a b x y small few room = ap (low_bytes (a + b)) (shifted a b x y few room) ∙ low_bytes-join a b x y small

-- the last of eight bytes
pub last_bytes : (count word is len : ℕ) → count ≤ 8 → is ≡ word / 2 ^ (8 * (8 - count)) → len ≡ count →
    low_bytes len is ≡ drop (8 - count) (low_bytes 8 word)
last_bytes count word is len few cut long =
    let all : 8 ≡ 8 - count + count = omega arith in
    ap (λ (k : ℕ). low_bytes k is) long
    ∙ ap (low_bytes count) (cut ∙ ap (λ (p : ℕ). word / p) (pow-bytes (8 - count)))
    ∙ sym (drop-low_bytes (8 - count) count word)
    ∙ ap (λ (k : ℕ). drop (8 - count) (low_bytes k word)) (sym all)

pub last_bytes-fit : (count word is len : ℕ) → count ≤ 8 → word < 2 ^ 64 → is ≡ word / 2 ^ (8 * (8 - count)) → len ≡ count → is < 256 ^ len
last_bytes-fit count word is len few small cut long =
    let all : 8 ≡ 8 - count + count = omega arith in
    let Below : ℕ → Type 0 = λ k. word < 256 ^ k in
    let whole : word < 256 ^ (8 - count + count) = subst Below all small in
    let part : word / 256 ^ (8 - count) < 256 ^ count = drop-fits (8 - count) count word whole in
    rw (long, cut, pow-bytes (8 - count)) part

-- the last of eight bytes, and one more
pub last_bytes-with : (count word end cut len : ℕ) → count ≤ 8 → word < 2 ^ 64 → end < 256 → cut ≡ (word + end * 2 ^ 64) / 2 ^ (8 * (8 - count)) → len ≡ count →
    low_bytes (len + 1) cut ≡ drop (8 - count) (low_bytes 8 word) ++ end ∷ []
last_bytes-with count word end cut len few small byte is long =
    let more : ℕ = 8 - count in
    let all : more + (len + 1) ≡ 9 = omega arith in
    let one : low_bytes 1 end ≡ end ∷ [] =
    low_bytes-suc 0 end ∙ ap (λ (rest : List ℕ). end % 256 ∷ rest) (low_bytes-zero (end / 256)) ∙ ap (λ (e : ℕ). e ∷ []) (omega arith)
    in
    let within : more ≤ length (low_bytes 8 word) = omega (arith, length-low_bytes 8 word) in
    ap (low_bytes (len + 1)) (is ∙ ap (λ (p : ℕ). (word + end * 2 ^ 64) / p) (pow-bytes more))
    ∙ sym (drop-low_bytes more (len + 1) (word + end * 2 ^ 64))
    ∙ ap (λ (k : ℕ). drop more (low_bytes k (word + end * 2 ^ 64))) all
    ∙ ap (drop more) (low_bytes-join 8 1 word end small ∙ ap (λ (last : List ℕ). low_bytes 8 word ++ last) one)
    ∙ drop-append-le more (low_bytes 8 word) (end ∷ []) within

pub last_bytes-with-fit : (count word end cut len : ℕ) → count ≤ 8 → word < 2 ^ 64 → end < 256 → cut ≡ (word + end * 2 ^ 64) / 2 ^ (8 * (8 - count)) → len ≡ count →
    cut < 256 ^ (len + 1)
last_bytes-with-fit count word end cut len few small byte is long =
    let more : ℕ = 8 - count in
    let all : more + (len + 1) ≡ 9 = omega arith in
    let Below : ℕ → Type 0 = λ k. word + end * 2 ^ 64 < 256 ^ k in
    let nine : word + end * 2 ^ 64 < 256 ^ 9 = omega arith in
    let whole : word + end * 2 ^ 64 < 256 ^ (more + (len + 1)) = subst Below (sym all) nine in
    let part : (word + end * 2 ^ 64) / 256 ^ more < 256 ^ (len + 1) = drop-fits more (len + 1) (word + end * 2 ^ 64) whole in
    rw (is, pow-bytes more) part
