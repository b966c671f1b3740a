-- Lines of numbers, each with a key of its own: which keys they have, and what is left of them and made of them.
use Rattle.std.proofs.Common.{◌≡◌, ℕ, zero, suc, ◌+◌, ◌<◌, ◌≤◌, All, Bool, true, false, not, ◌&&◌, List, ◌∷◌, ◌++◌, filter, map, inl, inr, refl, ap, arith, sym, ◌∙◌}
use Rattle.std.specs.List.{range_with_len}
use Rattle.std.specs.Str.{bytes_eq}
use Rattle.std.proofs.lemmas.Bool.{cases_Bool, cases_lt}
use Rattle.std.proofs.lemmas.List.Elements.{All-cons, All-nil}
use Rattle.stream_apply.specs.KeyedLines.{KeyedLine, has_key, keyed}
use Rattle.stream_apply.specs.Streams.{with_each, without}
use Rattle.stream_apply.proofs.KeyedLineLemmas.{AreApart, AreApart-cons, bytes_eq-apart, bytes_eq-same, with_each-first, with_each-same}

-- the lines of those numbers of a range that pass a test, each with its key and with a text
abbrev pub lines_in : (ℕ → List ℕ) → (ℕ → List ℕ) → (ℕ → Bool) → ℕ → ℕ → List KeyedLine
lines_in key text p a n = map (λ (j : ℕ). keyed (key j) (text j)) (filter p (range_with_len a n))

-- no two numbers below a size have one key
abbrev pub AreKeys : (ℕ → List ℕ) → ℕ → Type 0
AreKeys key size = (i j : ℕ) → i < size → j < size → key i ≡ key j → i ≡ j

-- what holds of the line of each such number holds of all
pub lines_in-all : (P : KeyedLine → Type 0) (key text : ℕ → List ℕ) (p : ℕ → Bool) (a n : ℕ) →
    ((j : ℕ) → a ≤ j → j < a + n → p j ≡ true → P (keyed (key j) (text j))) → All P (lines_in key text p a n)
lines_in-all P key text p a zero holds = All-nil P
lines_in-all P key text p a (suc n) holds =
    let rest : All P (lines_in key text p (a + 1) n) =
    lines_in-all P key text p (a + 1) n (λ j low high passes. holds j (omega (arith, low)) (omega (arith, high)) passes) in
    elim (cases_Bool (p a)) [
      | inl passes ↦ rw passes (All-cons P (keyed (key a) (text a)) (lines_in key text p (a + 1) n) (holds a (omega arith) (omega arith) passes) rest)
      | inr fails ↦ rw fails rest
    ]

-- the lines of a range that is two
pub lines_in-append : (key text : ℕ → List ℕ) (p : ℕ → Bool) (a m n : ℕ) →
    lines_in key text p a m ++ lines_in key text p (a + m) n ≡ lines_in key text p a (m + n)
lines_in-append key text p a zero n =
    let start : a + 0 ≡ a = omega arith in
    let all : 0 + n ≡ n = omega arith in
    rw (start, all) refl
lines_in-append key text p a (suc m) n =
    let start : a + suc m ≡ (a + 1) + m = omega arith in
    let all : suc m + n ≡ suc (m + n) = omega arith in
    let rest : lines_in key text p (a + 1) m ++ lines_in key text p ((a + 1) + m) n ≡ lines_in key text p (a + 1) (m + n) = lines_in-append key text p (a + 1) m n in
    elim (cases_Bool (p a)) [
      | inl passes ↦ rw (start, all, passes) (ap (λ (lines : List KeyedLine). keyed (key a) (text a) ∷ lines) rest)
      | inr fails ↦ rw (start, all, fails) rest
    ]

-- what is left of the lines where those are dropped whose keys are among others
pub without-lines_in : (others : List KeyedLine) (key text : ℕ → List ℕ) (p q : ℕ → Bool) (a n : ℕ) →
    ((j : ℕ) → a ≤ j → j < a + n → (p j && not (has_key others (key j))) ≡ q j) →
    without (lines_in key text p a n) others ≡ lines_in key text q a n
without-lines_in others key text p q a zero are = refl
without-lines_in others key text p q a (suc n) are =
    let rest : without (lines_in key text p (a + 1) n) others ≡ lines_in key text q (a + 1) n =
    without-lines_in others key text p q (a + 1) n (λ j low high. are j (omega (arith, low)) (omega (arith, high))) in
    let here : (p a && not (has_key others (key a))) ≡ q a = are a (omega arith) (omega arith) in
    elim (cases_Bool (p a)) [
      | inr fails ↦
          let out : q a ≡ false = sym here ∙ ap (λ (b : Bool). b && not (has_key others (key a))) fails in
          rw (fails, out) rest
      | inl passes ↦ elim (cases_Bool (not (has_key others (key a)))) [
        | inl free ↦
            let kept : q a ≡ true = sym here ∙ ap (λ (b : Bool). b && not (has_key others (key a))) passes ∙ free in
            rw (passes, free, kept) (ap (λ (lines : List KeyedLine). keyed (key a) (text a) ∷ lines) rest)
        | inr held ↦
            let out : q a ≡ false = sym here ∙ ap (λ (b : Bool). b && not (has_key others (key a))) passes ∙ held in
            rw (passes, held, out) rest
      ]
    ]

module _ (key : ℕ → List ℕ) (size : ℕ) (one_to_one : AreKeys key size) where
  key-apart : (i j : ℕ) → i < size → j < size → (i ≡ j → ⊥) → bytes_eq (key i) (key j) ≡ false
  key-apart i j small_i small_j apart = bytes_eq-apart (key i) (key j) (λ same. apart (one_to_one i j small_i small_j same))

  -- none of the lines has the key of a number that isn't one of theirs
  pub has_key-outside : (text : ℕ → List ℕ) (p : ℕ → Bool) (a n j : ℕ) → a + n ≤ size → j < size → ((k : ℕ) → a ≤ k → k < a + n → k ≡ j → ⊥) →
      has_key (lines_in key text p a n) (key j) ≡ false
  has_key-outside text p a zero j within small apart = refl
  has_key-outside text p a (suc n) j within small apart =
      let rest : has_key (lines_in key text p (a + 1) n) (key j) ≡ false =
      has_key-outside text p (a + 1) n j (omega (arith, within)) small (λ k low high same. apart k (omega (arith, low)) (omega (arith, high)) same) in
      elim (cases_Bool (p a)) [
        | inl passes ↦ rw (passes, key-apart j a small (omega (arith, within)) (λ same. apart a (omega arith) (omega arith) (sym same))) rest
        | inr fails ↦ rw fails rest
      ]

  -- one has that of a number of the range exactly where the number passes the test
  pub has_key-inside : (text : ℕ → List ℕ) (p : ℕ → Bool) (a n j : ℕ) → a + n ≤ size → a ≤ j → j < a + n →
      has_key (lines_in key text p a n) (key j) ≡ p j
  has_key-inside text p a zero j within low high = absurd (omega (arith, low, high))
  has_key-inside text p a (suc n) j within low high = elim (cases_lt a j) [
    | inl later ↦
        let rest : has_key (lines_in key text p (a + 1) n) (key j) ≡ p j =
        has_key-inside text p (a + 1) n j (omega (arith, within)) (omega (arith, later)) (omega (arith, high)) in
        elim (cases_Bool (p a)) [
          | inl passes ↦ rw (passes, key-apart j a (omega (arith, within, high)) (omega (arith, within)) (λ same. omega (arith, same, later))) rest
          | inr fails ↦ rw fails rest
        ]
    | inr here ↦
        let same : a ≡ j = omega (arith, here, low) in
        elim (cases_Bool (p a)) [
          | inl passes ↦
              let first : bytes_eq (key j) (key a) ≡ true = ap (λ (i : ℕ). bytes_eq (key j) (key i)) same ∙ bytes_eq-same (key j) in
              rw (passes, first) (sym passes ∙ ap p same)
          | inr fails ↦
              rw fails (has_key-outside text p (a + 1) n j (omega (arith, within)) (omega (arith, within, high)) (λ k from below at. omega (arith, from, at, same))
              ∙ sym (sym (ap p same) ∙ fails))
        ]
  ]

  -- the lines have keys apart
  pub lines_in-apart : (text : ℕ → List ℕ) (p : ℕ → Bool) (a n : ℕ) → a + n ≤ size → AreApart (lines_in key text p a n)
  lines_in-apart text p a zero within = λ i d inside. absurd (omega (arith, inside))
  lines_in-apart text p a (suc n) within =
      let rest : AreApart (lines_in key text p (a + 1) n) = lines_in-apart text p (a + 1) n (omega (arith, within)) in
      elim (cases_Bool (p a)) [
        | inl passes ↦
            rw passes (AreApart-cons (keyed (key a) (text a)) (lines_in key text p (a + 1) n)
            (has_key-outside text p (a + 1) n a (omega (arith, within)) (omega (arith, within)) (λ k low high same. omega (arith, low, same))) rest)
        | inr fails ↦ rw fails rest
      ]

  -- lines of which some are replaced have the later texts, where each other has it already
  pub with_each-lines_in : (old new : ℕ → List ℕ) (live changes : ℕ → Bool) (a n : ℕ) → a + n ≤ size →
      ((j : ℕ) → a ≤ j → j < a + n → changes j ≡ true → live j ≡ true) →
      ((j : ℕ) → a ≤ j → j < a + n → live j ≡ true → changes j ≡ false → old j ≡ new j) →
      with_each (lines_in key old live a n) (lines_in key new changes a n) ≡ lines_in key new live a n
  with_each-lines_in old new live changes a zero within among still = refl
  with_each-lines_in old new live changes a (suc n) within among still =
      let replaced : List KeyedLine = lines_in key new changes (a + 1) n in
      let rest : with_each (lines_in key old live (a + 1) n) replaced ≡ lines_in key new live (a + 1) n =
      with_each-lines_in old new live changes (a + 1) n (omega (arith, within))
      (λ j low high at. among j (omega (arith, low)) (omega (arith, high)) at) (λ j low high alive rests. still j (omega (arith, low)) (omega (arith, high)) alive rests) in
      let free : has_key replaced (key a) ≡ false =
      has_key-outside new changes (a + 1) n a (omega (arith, within)) (omega (arith, within)) (λ k low high same. omega (arith, low, same)) in
      let behind : with_each (keyed (key a) (new a) ∷ lines_in key old live (a + 1) n) replaced ≡ keyed (key a) (new a) ∷ lines_in key new live (a + 1) n =
      with_each-first (keyed (key a) (new a)) (lines_in key old live (a + 1) n) replaced free ∙ ap (λ (lines : List KeyedLine). keyed (key a) (new a) ∷ lines) rest in
      elim (cases_Bool (changes a)) [
        | inl changed ↦ rw (changed, among a (omega arith) (omega arith) changed) (with_each-same (key a) (old a) (new a) (lines_in key old live (a + 1) n) replaced ∙ behind)
        | inr rests ↦ elim (cases_Bool (live a)) [
          | inl alive ↦ rw (rests, alive, still a (omega arith) (omega arith) alive rests) behind
          | inr dead ↦ rw (rests, dead) rest
        ]
      ]
