-- How a byte is written: itself, or as an escape, whose letter tells which byte it was.
use Rattle.std.proofs.Common.{◌≡◌, ◌≢◌, ℕ, ◌==◌, [], ◌∷◌, length, refl, ap, ◌∙◌, inl, inr, if◌then◌else◌, Bool, true, false, ◌&&◌, ◌||◌, nat_le, arith}
use Rattle.std.proofs.lemmas.Bool.{ne_eqb, lt-leb, cases_eq, cases_lt, and_left, and_right, or_from, OnFalse_from, OnTrue_from, both_ways}
use Rattle.std.specs.Bool.{OnFalse, OnTrue}
use Rattle.std.specs.Int.{IsInRange}
use Rattle.row_text.specs.Fields.{escaped}

-- a byte that isn't in the list of escapes
escaped-itself : (delimiter byte : ℕ) → byte ≢ 8 → byte ≢ 9 → byte ≢ 10 → byte ≢ 11 → byte ≢ 12 → byte ≢ 13 → byte ≢ 92 → (byte == 124 && delimiter == 124) ≡ false → escaped delimiter byte ≡ byte ∷ []
unfolding escaped
escaped-itself delimiter byte not_8 not_9 not_10 not_11 not_12 not_13 not_92 no_bar =
    simp (ne_eqb byte 8 not_8, ne_eqb byte 9 not_9, ne_eqb byte 10 not_10, ne_eqb byte 11 not_11, ne_eqb byte 12 not_12, ne_eqb byte 13 not_13, ne_eqb byte 92 not_92, no_bar)

-- a digit
pub escaped-digit : (delimiter byte : ℕ) → IsInRange 48 57 byte → escaped delimiter byte ≡ byte ∷ []
escaped-digit delimiter byte digit =
    escaped-itself delimiter byte (omega arith) (omega arith) (omega arith) (omega arith) (omega arith) (omega arith) (omega arith)
    (and_left (byte == 124) (delimiter == 124) (ne_eqb byte 124 (omega arith)))

-- the test for one that is
abbrev pub is_special : ℕ → ℕ → Bool
is_special delimiter byte = ((nat_le 8 byte && nat_le byte 13) || byte == 92) || (byte == 124 && delimiter == 124)

-- it fails at the others
is_special-itself : (delimiter byte : ℕ) → byte ≢ 8 → byte ≢ 9 → byte ≢ 10 → byte ≢ 11 → byte ≢ 12 → byte ≢ 13 → byte ≢ 92 → (byte == 124 && delimiter == 124) ≡ false → is_special delimiter byte ≡ false
is_special-itself delimiter byte not_8 not_9 not_10 not_11 not_12 not_13 not_92 no_bar =
    let between : (nat_le 8 byte && nat_le byte 13) ≡ false =
    elim (cases_lt byte 8) [
      | inl below ↦ and_left (nat_le 8 byte) (nat_le byte 13) (lt-leb 8 byte below)
      | inr from_8 ↦ and_right (nat_le 8 byte) (nat_le byte 13) (lt-leb byte 13 (omega arith))
    ] in
    or_from _ _ (or_from _ _ between (ne_eqb byte 92 not_92)) no_bar

-- the byte that an escape's letter stands for
abbrev pub byte_of : ℕ → ℕ
byte_of letter =
    if letter == 98 then 8 else
    (if letter == 116 then 9 else
    (if letter == 110 then 10 else
    (if letter == 118 then 11 else
    (if letter == 102 then 12 else
    (if letter == 114 then 13 else letter)))))

-- the two ways to write a byte
pub data Form (delimiter byte : ℕ) : Type 0 where
  itself : escaped delimiter byte ≡ byte ∷ [] → byte ≢ 9 → byte ≢ 10 → byte ≢ 92 → (delimiter ≡ 124 → byte ≢ 124) → is_special delimiter byte ≡ false → Form delimiter byte
  escape : (letter : ℕ) → escaped delimiter byte ≡ 92 ∷ letter ∷ [] → byte ≡ byte_of letter → letter ≢ 9 → letter ≢ 10 → letter ≢ 78 → is_special delimiter byte ≡ true → Form delimiter byte

-- the form of a byte of the list, by its letter
form_of : (delimiter byte letter : ℕ) (special : ℕ) → byte ≡ special → escaped delimiter special ≡ 92 ∷ letter ∷ [] → special ≡ byte_of letter → letter ≢ 9 → letter ≢ 10 → letter ≢ 78 → is_special delimiter special ≡ true → Form delimiter byte
form_of delimiter byte letter special is written back no_tab no_line_feed no_n test =
    escape letter (ap (escaped delimiter) is ∙ written) (is ∙ back) no_tab no_line_feed no_n (ap (is_special delimiter) is ∙ test)

-- the form of any byte
pub form : (delimiter byte : ℕ) → Form delimiter byte
unfolding escaped
form delimiter byte =
    elim (cases_eq byte 8) [
      | inl is ↦ form_of delimiter byte 98 8 is refl refl (omega arith) (omega arith) (omega arith) refl
      | inr not_8 ↦ elim (cases_eq byte 9) [
        | inl is ↦ form_of delimiter byte 116 9 is refl refl (omega arith) (omega arith) (omega arith) refl
        | inr not_9 ↦ elim (cases_eq byte 10) [
          | inl is ↦ form_of delimiter byte 110 10 is refl refl (omega arith) (omega arith) (omega arith) refl
          | inr not_10 ↦ elim (cases_eq byte 11) [
            | inl is ↦ form_of delimiter byte 118 11 is refl refl (omega arith) (omega arith) (omega arith) refl
            | inr not_11 ↦ elim (cases_eq byte 12) [
              | inl is ↦ form_of delimiter byte 102 12 is refl refl (omega arith) (omega arith) (omega arith) refl
              | inr not_12 ↦ elim (cases_eq byte 13) [
                | inl is ↦ form_of delimiter byte 114 13 is refl refl (omega arith) (omega arith) (omega arith) refl
                | inr not_13 ↦ elim (cases_eq byte 92) [
                  | inl is ↦ form_of delimiter byte 92 92 is refl refl (omega arith) (omega arith) (omega arith) refl
                  | inr not_92 ↦ elim (cases_eq byte 124) [
                    | inr not_124 ↦
                        let no_bar : (byte == 124 && delimiter == 124) ≡ false = and_left (byte == 124) (delimiter == 124) (ne_eqb byte 124 not_124) in
                        itself (escaped-itself delimiter byte not_8 not_9 not_10 not_11 not_12 not_13 not_92 no_bar) not_9 not_10 not_92 (λ _. not_124)
                        (is_special-itself delimiter byte not_8 not_9 not_10 not_11 not_12 not_13 not_92 no_bar)
                    | inl is ↦ elim (cases_eq delimiter 124) [
                      | inl bar ↦ form_of delimiter byte 124 124 is (ap (λ (d : ℕ). escaped d 124) bar) refl (omega arith) (omega arith) (omega arith) (ap (λ (d : ℕ). is_special d 124) bar)
                      | inr other ↦
                          let no_bar : (byte == 124 && delimiter == 124) ≡ false = and_right (byte == 124) (delimiter == 124) (ne_eqb delimiter 124 other) in
                          itself (escaped-itself delimiter byte not_8 not_9 not_10 not_11 not_12 not_13 not_92 no_bar) not_9 not_10 not_92 (λ bar _. other bar)
                          (is_special-itself delimiter byte not_8 not_9 not_10 not_11 not_12 not_13 not_92 no_bar)
                    ]
                  ]
                ]
              ]
            ]
          ]
        ]
      ]
    ]

-- what the test tells
pub is_special-false : (delimiter byte : ℕ) → OnFalse (is_special delimiter byte) (escaped delimiter byte ≡ byte ∷ [])
is_special-false delimiter byte =
    OnFalse_from _ _ (λ fails. elim (form delimiter byte) [
      | itself written _ _ _ _ _ ↦ written
      | escape letter _ _ _ _ _ passes ↦ absurd (both_ways _ fails passes)
    ])

pub is_special-true : (delimiter byte : ℕ) → OnTrue (is_special delimiter byte) (length (escaped delimiter byte) ≡ 2)
is_special-true delimiter byte =
    OnTrue_from _ _ (λ passes. elim (form delimiter byte) [
      | itself _ _ _ _ _ fails ↦ absurd (both_ways _ fails passes)
      | escape letter written _ _ _ _ _ ↦ ap length written
    ])
