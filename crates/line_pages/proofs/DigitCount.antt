-- The digits of a number, counted by the zeros that lead in its eight digits.
use Rattle.std.proofs.Common.{◌≡◌, ℕ, zero, suc, ◌+◌, ◌-◌, ◌*◌, ◌/◌, ◌%◌, ◌^◌, ◌<◌, ◌≤◌, List, [], ◌∷◌, ◌++◌, inl, inr, drop, get_or, sym, ap, ◌∙◌, subst, arith}
use Rattle.std.specs.Int.Count.{count_trailing_zeros, under}
use Rattle.std.proofs.lemmas.Bool.{cases_lt}
use Rattle.std.proofs.lemmas.Nat.{le-div}
use Rattle.std.proofs.Math.Nat.{pow-suc, one-le-pow, mul_assoc, div-eq_of_lt, div-lt_iff_lt-mul}
use Rattle.line_pages.specs.Pieces.{low_bytes}
use Rattle.line_pages.specs.Digits.{last_digits, HasDigits}
use Rattle.line_pages.proofs.LowBytes.{low_bytes-suc}
use Rattle.line_pages.proofs.LastDigits.{last_digits-zero, last_digits-suc, last_digits-split}

even : (k n : ℕ) → n % 2 ≡ 0 → count_trailing_zeros (suc k) n ≡ suc (count_trailing_zeros k (n / 2))
unfolding count_trailing_zeros
even k n is = ap (λ (bit : ℕ). under bit (count_trailing_zeros k (n / 2))) is

odd : (k n : ℕ) → n % 2 ≡ 1 → count_trailing_zeros (suc k) n ≡ 0
unfolding count_trailing_zeros
odd k n is = ap (λ (bit : ℕ). under bit (count_trailing_zeros k (n / 2))) is

-- the bits of a byte, and more
abbrev byte_and : ℕ → ℕ
byte_and k = suc (suc (suc (suc (suc (suc (suc (suc k)))))))

-- a byte 0 below the others
zero_byte : (k n : ℕ) → n % 256 ≡ 0 → count_trailing_zeros (8 + k) n ≡ 8 + count_trailing_zeros k (n / 256)
zero_byte k n none =
    let all : 8 + k ≡ byte_and k = omega arith in
    let rest : n / 2 / 2 / 2 / 2 / 2 / 2 / 2 / 2 ≡ n / 256 = omega arith in
    let bits : byte_and (count_trailing_zeros k (n / 256)) ≡ 8 + count_trailing_zeros k (n / 256) = omega arith in
    ap (λ (k : ℕ). count_trailing_zeros k n) all
    ∙ even (suc (suc (suc (suc (suc (suc (suc k))))))) n (omega arith)
    ∙ ap suc (even (suc (suc (suc (suc (suc (suc k)))))) (n / 2) (omega arith))
    ∙ ap (λ (t : ℕ). suc (suc t)) (even (suc (suc (suc (suc (suc k))))) (n / 2 / 2) (omega arith))
    ∙ ap (λ (t : ℕ). suc (suc (suc t))) (even (suc (suc (suc (suc k)))) (n / 2 / 2 / 2) (omega arith))
    ∙ ap (λ (t : ℕ). suc (suc (suc (suc t)))) (even (suc (suc (suc k))) (n / 2 / 2 / 2 / 2) (omega arith))
    ∙ ap (λ (t : ℕ). suc (suc (suc (suc (suc t))))) (even (suc (suc k)) (n / 2 / 2 / 2 / 2 / 2) (omega arith))
    ∙ ap (λ (t : ℕ). suc (suc (suc (suc (suc (suc t)))))) (even (suc k) (n / 2 / 2 / 2 / 2 / 2 / 2) (omega arith))
    ∙ ap (λ (t : ℕ). suc (suc (suc (suc (suc (suc (suc t))))))) (even k (n / 2 / 2 / 2 / 2 / 2 / 2 / 2) (omega arith))
    ∙ ap (λ (left : ℕ). byte_and (count_trailing_zeros k left)) rest
    ∙ bits

-- another byte below the others: fewer zeros than the byte has bits
other_bits : (j k low high : ℕ) → 0 < low → low < 2 ^ j → count_trailing_zeros (j + k) (low + high * 2 ^ j) < j
other_bits zero k low high some few = absurd (omega arith)
other_bits (suc j) k low high some few =
    let n : ℕ = low + high * 2 ^ suc j in
    let all : suc j + k ≡ suc (j + k) = omega arith in
    let up : 2 ^ suc j ≡ 2 ^ j * 2 = pow-suc 2 j in
    let whole : high * 2 ^ suc j ≡ high * 2 ^ j * 2 = ap (λ (p : ℕ). high * p) up ∙ sym (mul_assoc high (2 ^ j) 2) in
    let Few : ℕ → Type 0 = λ t. t < suc j in
    elim (cases_lt (low % 2) 1) [
      | inl is ↦
          let half : n / 2 ≡ low / 2 + high * 2 ^ j = omega arith in
          let fewer : count_trailing_zeros (j + k) (low / 2 + high * 2 ^ j) < j = other_bits j k (low / 2) high (omega arith) (omega arith) in
          omega (
            arith,
            ap (λ (bits : ℕ). count_trailing_zeros bits n) all,
            even (j + k) n (omega arith),
            ap (count_trailing_zeros (j + k)) half,
          )
      | inr is ↦ omega (arith, ap (λ (bits : ℕ). count_trailing_zeros bits n) all, odd (j + k) n (omega arith))
    ]

other_byte : (k n : ℕ) → 0 < n % 256 → count_trailing_zeros (8 + k) n < 8
other_byte k n some =
    let is : n % 256 + n / 256 * 256 ≡ n = omega arith in
    subst (λ (m : ℕ). count_trailing_zeros (8 + k) m < 8) is (other_bits 8 k (n % 256) (n / 256) some (omega arith))

-- so many digits 0, 16 less in the last one, which is highest
abbrev pub no_digits : ℕ → ℕ
no_digits zero = 0
no_digits (suc zero) = 32
no_digits (suc (suc count)) = 48 + no_digits (suc count) * 256

first_digit : (count n word : ℕ) → low_bytes (suc (suc count)) word ≡ last_digits (suc (suc count)) n →
    (word % 256 ≡ 48 + n / 10 ^ suc count % 10) × (low_bytes (suc count) (word / 256) ≡ last_digits (suc count) n)
first_digit count n word is =
    let all : suc (suc count) ≡ 1 + suc count = omega arith in
    let both : word % 256 ∷ low_bytes (suc count) (word / 256) ≡ (48 + n / 10 ^ suc count % 10) ∷ last_digits (suc count) n =
    sym (low_bytes-suc (suc count) word)
    ∙ is
    ∙ ap (λ (k : ℕ). last_digits k n) all
    ∙ last_digits-split 1 (suc count) n
    ∙ ap (λ (one : List ℕ). one ++ last_digits (suc count) n) (last_digits-suc 0 (n / 10 ^ suc count))
    ∙ ap (λ (none : List ℕ). (none ++ (48 + n / 10 ^ suc count % 10) ∷ []) ++ last_digits (suc count) n) (last_digits-zero (n / 10 ^ suc count / 10))
    in
    (ap (λ (bytes : List ℕ). get_or bytes 0 0) both, ap (drop 1) both)

lone_digit : (n word : ℕ) → word < 256 → low_bytes 1 word ≡ last_digits 1 n → word ≡ 48 + n % 10
lone_digit n word small is =
    let both : word % 256 ∷ low_bytes 0 (word / 256) ≡ last_digits 0 (n / 10) ++ (48 + n % 10) ∷ [] =
    sym (low_bytes-suc 0 word) ∙ is ∙ last_digits-suc 0 n
    in
    let first : word % 256 ≡ 48 + n % 10 =
    ap (λ (bytes : List ℕ). get_or bytes 0 0) (both ∙ ap (λ (none : List ℕ). none ++ (48 + n % 10) ∷ []) (last_digits-zero (n / 10)))
    in
    omega arith

below-pow : (count word : ℕ) → word < 256 ^ suc count → word / 256 < 256 ^ count
below-pow count word small = omega (arith, pow-suc 256 count)

pub above : (count n word : ℕ) → word < 256 ^ suc count → low_bytes (suc count) word ≡ last_digits (suc count) n → no_digits (suc count) ≤ word
above zero n word small is = omega (arith, lone_digit n word small is)
above (suc count) n word small is =
    let digits = first_digit count n word is in
    omega (arith, digits.0, above count n (word / 256) (below-pow (suc count) word small) digits.1)

-- the zeros that lead in the digits of a number
record IsCounted (count n zeros : ℕ) : Type 0 where
  within : zeros < 8 * count
  has : HasDigits n (count - zeros / 8)

counted : (count n word : ℕ) → n < 10 ^ suc count → word < 256 ^ suc count → low_bytes (suc count) word ≡ last_digits (suc count) n →
    IsCounted (suc count) n (count_trailing_zeros (8 * suc count) (word - no_digits (suc count)))
counted zero n word few small is =
    let digit : word - 32 ≡ 16 + n % 10 = omega (arith, lone_digit n word small is) in
    let t : ℕ = count_trailing_zeros (8 * 1) (word - no_digits 1) in
    let zeros : t < 8 = other_byte 0 (word - 32) (omega arith) in
    let one : 1 ≡ 1 - t / 8 = omega arith in
    record { within = zeros; has = subst (HasDigits n) one (record { some = omega arith; few = few; many = λ two. absurd (omega arith) }) }
counted (suc count) n word few small is =
    let digits = first_digit count n word is in
    let power : ℕ = 10 ^ suc count in
    let some : 0 < power = one-le-pow (suc count) 10 (omega arith) in
    let up : 10 ^ suc (suc count) ≡ power * 10 = pow-suc 10 (suc count) in
    let digit : n / power < 10 = (div-lt_iff_lt-mul some).1 (omega arith) in
    let rest : ℕ = word / 256 - no_digits (suc count) in
    let reached : no_digits (suc count) ≤ word / 256 = above count n (word / 256) (below-pow (suc count) word small) digits.1 in
    let left : ℕ = word - no_digits (suc (suc count)) in
    let is_left : left ≡ n / power % 10 + rest * 256 = omega (arith, digits.0) in
    let bits : 8 * suc (suc count) ≡ 8 + 8 * suc count = omega arith in
    let same : count_trailing_zeros (8 * suc (suc count)) left ≡ count_trailing_zeros (8 + 8 * suc count) left =
    ap (λ (k : ℕ). count_trailing_zeros k left) bits
    in
    let t : ℕ = count_trailing_zeros (8 + 8 * suc count) left in
    subst (IsCounted (suc (suc count)) n) (sym same)
    (elim (cases_lt n power) [
      | inl less ↦
          let none : n / power ≡ 0 = div-eq_of_lt less in
          let zero : left % 256 ≡ 0 = omega arith in
          let higher : left / 256 ≡ rest = omega arith in
          let more : ℕ = count_trailing_zeros (8 * suc count) rest in
          let longer : t ≡ 8 + more =
          zero_byte (8 * suc count) left zero ∙ ap (λ (n : ℕ). 8 + count_trailing_zeros (8 * suc count) n) higher
          in
          let lower = counted count n (word / 256) less (below-pow (suc count) word small) digits.1 in
          let fewer : suc count - more / 8 ≡ suc (suc count) - t / 8 = omega arith in
          record { within = omega (arith, lower.within); has = subst (HasDigits n) fewer lower.has }
      | inr over ↦
          let one : 0 < n / power = le-div 1 n power some (omega arith) in
          let zeros : t < 8 = other_byte (8 * suc count) left (omega arith) in
          let all : suc (suc count) ≡ suc (suc count) - t / 8 = omega arith in
          let first : suc (suc count) - 1 ≡ suc count = omega arith in
          record {
            within = omega arith;
            has = subst (HasDigits n) all
                (record { some = omega arith; few = few; many = λ two. rw first over });
          }
    ])

pub eight-counted : (n word : ℕ) → n < 100000000 → word < 2 ^ 64 → low_bytes 8 word ≡ last_digits 8 n →
    HasDigits n (8 - count_trailing_zeros 64 (word - 2319406791620833328) % 64 / 8)
eight-counted n word few small is =
    let lead = counted 7 n word few small is in
    let t : ℕ = count_trailing_zeros 64 (word - 2319406791620833328) in
    let same : 8 - t / 8 ≡ 8 - t % 64 / 8 = omega (arith, lead.within) in
    subst (HasDigits n) same lead.has
