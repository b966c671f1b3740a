-- The records that a text in COPY text form is scanned into.
use Rattle.std.proofs.Common.{◌≡◌, ◌≢◌, ◌<◌, ◌+◌, ℕ, zero, suc, ◌==◌, All, Bool, List, [], ◌∷◌, ◌++◌, Option, None, Some, false, true, length, get_or, map, take, refl, sym, ap, subst, ◌∙◌, inl, inr, append_assoc, add-one, arith}
use Rattle.std.specs.Prelude.{◌&&◌, flat_map, not}
use Rattle.std.specs.List.{list_all}
use Rattle.std.proofs.lemmas.Bool.{and_parts, cases_Bool, eq-eqb, eqb-true, ne_eqb}
use Rattle.std.proofs.lemmas.List.{append-nil}
use Rattle.std.proofs.lemmas.List.Elements.{All-head, All-tail}
use Rattle.row_text.specs.Fields.{IsDelimiter, escaped, escaped_text, field_text}
use Rattle.row_text.specs.Lines.{line_text}
use Rattle.row_text.proofs.EscapeLemmas.{itself, escape, form}
use Rattle.row_text.proofs.EscapeLemmas as escapes
use Rattle.csv_face.specs.Csv.{Row, csv_field, guarded, rows_text}
use Rattle.csv_face.specs.Scan.{is_plain, records_behind, with_byte, with_letter}
use Rattle.csv_face.specs.Scanners.{ArePlainBy}

-- a text after what a record's field holds of it
unfoldable with_bytes : List ℕ → List ℕ → List ℕ
with_bytes field [] = field
with_bytes field (byte ∷ bytes) = with_bytes (with_byte field byte) bytes

with_bytes-more : (first : ℕ) (field bytes : List ℕ) → with_bytes (first ∷ field) bytes ≡ first ∷ (field ++ bytes)
unfolding with_bytes
with_bytes-more first field [] = simp append-nil refl
with_bytes-more first field (byte ∷ bytes) =
    with_bytes-more first (field ++ byte ∷ []) bytes ∙ ap (λ (t : List ℕ). first ∷ t) (append_assoc field (byte ∷ []) bytes)

with_bytes-guarded : (bytes : List ℕ) → with_bytes [] bytes ≡ guarded bytes
unfolding with_bytes
with_bytes-guarded [] = refl
with_bytes-guarded (byte ∷ bytes) = elim (cases_Bool (byte == 92)) [
  | inl is ↦ simp is (with_bytes-more 92 (92 ∷ []) bytes ∙ ap (λ (b : ℕ). 92 ∷ b ∷ bytes) (sym (eqb-true byte 92 is)))
  | inr other ↦ simp other (with_bytes-more byte [] bytes)
]

with_byte-plain : (field : List ℕ) (byte : ℕ) → byte ≢ 92 → with_byte field byte ≡ field ++ byte ∷ []
with_byte-plain [] byte no_backslash = simp (ne_eqb byte 92 no_backslash) refl
with_byte-plain (first ∷ field) byte no_backslash = refl

not_delimiter : (delimiter byte : ℕ) → IsDelimiter delimiter → byte ≢ 9 → (delimiter ≡ 124 → byte ≢ 124) → byte ≢ delimiter
not_delimiter delimiter byte (inl tab) no_tab no_bar is = no_tab (is ∙ tab)
not_delimiter delimiter byte (inr bar) no_tab no_bar is = no_bar bar (is ∙ bar)

-- a byte that stands for itself
pub plain : (delimiter : ℕ) (fields : List (List ℕ)) (field : List ℕ) (byte : ℕ) (rest : List ℕ) → byte ≢ 92 → byte ≢ delimiter → byte ≢ 10
    → records_behind delimiter fields field false (byte ∷ rest) ≡ records_behind delimiter fields (field ++ byte ∷ []) false rest
unfolding records_behind
plain delimiter fields field byte rest no_backslash no_delimiter no_line_feed =
    simp (ne_eqb byte 92 no_backslash, ne_eqb byte delimiter no_delimiter, ne_eqb byte 10 no_line_feed) refl

-- a backslash and a letter
pub letter-behind : (delimiter : ℕ) (fields : List (List ℕ)) (field : List ℕ) (letter : ℕ) (rest : List ℕ)
    → records_behind delimiter fields field false (92 ∷ letter ∷ rest) ≡ records_behind delimiter fields (with_letter field letter) false rest
unfolding records_behind
letter-behind delimiter fields field letter rest = refl

with_letter-text : (field : List ℕ) (letter byte : ℕ) → letter ≢ 78 → byte ≡ escapes.byte_of letter → with_letter field letter ≡ with_byte field byte
with_letter-text field letter byte no_n is = simp (ne_eqb letter 78 no_n) (ap (with_byte field) (sym is))

-- a byte of a text, as it is written
byte-behind : (delimiter : ℕ) → IsDelimiter delimiter → (fields : List (List ℕ)) (field : List ℕ) (byte : ℕ) (rest : List ℕ)
    → records_behind delimiter fields field false (escaped delimiter byte ++ rest) ≡ records_behind delimiter fields (with_byte field byte) false rest
byte-behind delimiter delimits fields field byte rest = elim (form delimiter byte) [
  | itself written no_tab no_line_feed no_backslash no_bar _ ↦
      ap (λ (t : List ℕ). records_behind delimiter fields field false (t ++ rest)) written
      ∙ plain delimiter fields field byte rest no_backslash (not_delimiter delimiter byte delimits no_tab no_bar) no_line_feed
      ∙ ap (λ (f : List ℕ). records_behind delimiter fields f false rest) (sym (with_byte-plain field byte no_backslash))
  | escape letter written back _ _ no_n _ ↦
      ap (λ (t : List ℕ). records_behind delimiter fields field false (t ++ rest)) written
      ∙ letter-behind delimiter fields field letter rest
      ∙ ap (λ (f : List ℕ). records_behind delimiter fields f false rest) (with_letter-text field letter byte no_n back)
]

text-behind : (delimiter : ℕ) → IsDelimiter delimiter → (fields : List (List ℕ)) (field bytes rest : List ℕ)
    → records_behind delimiter fields field false (escaped_text delimiter bytes ++ rest) ≡ records_behind delimiter fields (with_bytes field bytes) false rest
unfolding with_bytes
text-behind delimiter delimits fields field [] rest = refl
text-behind delimiter delimits fields field (byte ∷ bytes) rest =
    ap (records_behind delimiter fields field false) (append_assoc (escaped delimiter byte) (escaped_text delimiter bytes) rest)
    ∙ byte-behind delimiter delimits fields field byte (escaped_text delimiter bytes ++ rest)
    ∙ text-behind delimiter delimits fields (with_byte field byte) bytes rest

field-behind : (delimiter : ℕ) → IsDelimiter delimiter → (fields : List (List ℕ)) (field : Option (List ℕ)) (rest : List ℕ)
    → records_behind delimiter fields [] false (field_text delimiter field ++ rest) ≡ records_behind delimiter fields (csv_field field) false rest
field-behind delimiter delimits fields None rest = letter-behind delimiter fields [] 78 rest
field-behind delimiter delimits fields (Some bytes) rest =
    text-behind delimiter delimits fields [] bytes rest ∙ ap (λ (f : List ℕ). records_behind delimiter fields f false rest) (with_bytes-guarded bytes)

pub delimiter-behind : (delimiter : ℕ) → IsDelimiter delimiter → (fields : List (List ℕ)) (field rest : List ℕ)
    → records_behind delimiter fields field false (delimiter ∷ rest) ≡ records_behind delimiter (fields ++ field ∷ []) [] false rest
unfolding records_behind
delimiter-behind delimiter (inl tab) fields field rest =
    subst (λ (d : ℕ). records_behind d fields field false (d ∷ rest) ≡ records_behind d (fields ++ field ∷ []) [] false rest) (sym tab) refl
delimiter-behind delimiter (inr bar) fields field rest =
    subst (λ (d : ℕ). records_behind d fields field false (d ∷ rest) ≡ records_behind d (fields ++ field ∷ []) [] false rest) (sym bar) refl

pub line_feed-behind : (delimiter : ℕ) → IsDelimiter delimiter → (fields : List (List ℕ)) (field rest : List ℕ)
    → records_behind delimiter fields field false (10 ∷ rest) ≡ (fields ++ field ∷ []) ∷ records_behind delimiter [] [] false rest
unfolding records_behind
line_feed-behind delimiter (inl tab) fields field rest =
    subst (λ (d : ℕ). records_behind d fields field false (10 ∷ rest) ≡ (fields ++ field ∷ []) ∷ records_behind d [] [] false rest) (sym tab) refl
line_feed-behind delimiter (inr bar) fields field rest =
    subst (λ (d : ℕ). records_behind d fields field false (10 ∷ rest) ≡ (fields ++ field ∷ []) ∷ records_behind d [] [] false rest) (sym bar) refl

-- fields after the first one, each with the delimiter before it
rest_text : ℕ → Row → List ℕ
rest_text delimiter fields = flat_map (λ field. (delimiter ∷ []) ++ field_text delimiter field) fields

rest-behind : (delimiter : ℕ) → IsDelimiter delimiter → (fields : List (List ℕ)) (field : List ℕ) (others : Row) (tail : List ℕ)
    → records_behind delimiter fields field false (rest_text delimiter others ++ 10 ∷ tail) ≡ (fields ++ field ∷ map csv_field others) ∷ records_behind delimiter [] [] false tail
unfolding rest_text
rest-behind delimiter delimits fields field [] tail = line_feed-behind delimiter delimits fields field tail
rest-behind delimiter delimits fields field (other ∷ others) tail =
    delimiter-behind delimiter delimits fields field ((field_text delimiter other ++ rest_text delimiter others) ++ 10 ∷ tail)
    ∙ ap (records_behind delimiter (fields ++ field ∷ []) [] false) (append_assoc (field_text delimiter other) (rest_text delimiter others) (10 ∷ tail))
    ∙ field-behind delimiter delimits (fields ++ field ∷ []) other (rest_text delimiter others ++ 10 ∷ tail)
    ∙ rest-behind delimiter delimits (fields ++ field ∷ []) (csv_field other) others tail
    ∙ ap (λ (r : List (List ℕ)). r ∷ records_behind delimiter [] [] false tail) (append_assoc fields (field ∷ []) (csv_field other ∷ map csv_field others))

line-behind : (delimiter : ℕ) → IsDelimiter delimiter → (field : Option (List ℕ)) (others : Row) (tail : List ℕ)
    → records_behind delimiter [] [] false ((line_text delimiter (field ∷ others) ++ 10 ∷ []) ++ tail) ≡ map csv_field (field ∷ others) ∷ records_behind delimiter [] [] false tail
unfolding rest_text
line-behind delimiter delimits field others tail =
    ap (records_behind delimiter [] [] false)
    (append_assoc (line_text delimiter (field ∷ others)) (10 ∷ []) tail ∙ append_assoc (field_text delimiter field) (rest_text delimiter others) (10 ∷ tail))
    ∙ field-behind delimiter delimits [] field (rest_text delimiter others ++ 10 ∷ tail)
    ∙ rest-behind delimiter delimits [] (csv_field field) others tail

-- the records of the lines of rows
pub records_behind-rows_text : (delimiter : ℕ) → IsDelimiter delimiter → (count : ℕ) → 0 < count → (rows : List Row) → All (λ (row : Row). length row ≡ count) rows
    → records_behind delimiter [] [] false (rows_text delimiter rows) ≡ map (map csv_field) rows
unfolding records_behind
records_behind-rows_text delimiter delimits count some [] alike = refl
records_behind-rows_text delimiter delimits count some ([] ∷ rows) alike =
    let none : 0 ≡ count = All-head (λ (row : Row). length row ≡ count) [] rows alike in
    absurd (omega (arith, none, some))
records_behind-rows_text delimiter delimits count some ((field ∷ fields) ∷ rows) alike =
    line-behind delimiter delimits field fields (rows_text delimiter rows)
    ∙ ap (λ (r : List (List (List ℕ))). map csv_field (field ∷ fields) ∷ r)
    (records_behind-rows_text delimiter delimits count some rows (All-tail (λ (row : Row). length row ≡ count) (field ∷ fields) rows alike))

-- bytes that stand for themselves
pub plain-behind : (delimiter : ℕ) (fields : List (List ℕ)) (field bytes rest : List ℕ) → list_all (is_plain delimiter) bytes ≡ true
    → records_behind delimiter fields field false (bytes ++ rest) ≡ records_behind delimiter fields (field ++ bytes) false rest
plain-behind delimiter fields field [] rest all = ap (λ (f : List ℕ). records_behind delimiter fields f false rest) (sym (append-nil field))
plain-behind delimiter fields field (byte ∷ bytes) rest all =
    let parts = and_parts (is_plain delimiter byte) (list_all (is_plain delimiter) bytes) all in
    let last = and_parts (not (byte == 92) && not (byte == delimiter)) (not (byte == 10)) parts.0 in
    let first = and_parts (not (byte == 92)) (not (byte == delimiter)) last.0 in
    plain delimiter fields field byte (bytes ++ rest) (other byte 92 first.0) (other byte delimiter first.1) (other byte 10 last.1)
    ∙ plain-behind delimiter fields (field ++ byte ∷ []) bytes rest parts.1
    ∙ ap (λ (f : List ℕ). records_behind delimiter fields f false rest) (append_assoc field (byte ∷ []) bytes)
  where
    other : (a b : ℕ) → not (a == b) ≡ true → a ≢ b
    other a b apart same = never (a == b) (eq-eqb a b same) apart
      where
        never : (t : Bool) → t ≡ true → not t ≡ true → ⊥
        never true is apart = cc apart
        never false is apart = cc is

-- the same by what the scanner waits for
pub plain-read : (delimiter : ℕ) (fields : List (List ℕ)) (field : List ℕ) (escape : Bool) (bytes rest : List ℕ) → ArePlainBy delimiter escape bytes
    → records_behind delimiter fields field escape (bytes ++ rest) ≡ records_behind delimiter fields (field ++ bytes) escape rest
plain-read delimiter fields field true bytes rest none =
    ap (λ (b : List ℕ). records_behind delimiter fields field true (b ++ rest)) none
    ∙ ap (λ (f : List ℕ). records_behind delimiter fields f true rest) (sym (append-nil field))
    ∙ ap (λ (b : List ℕ). records_behind delimiter fields (field ++ b) true rest) (sym none)
plain-read delimiter fields field false bytes rest all = plain-behind delimiter fields field bytes rest all

-- one more byte that stands for itself
pub plain-more : (delimiter : ℕ) (text : List ℕ) (place d : ℕ) → place < length text → list_all (is_plain delimiter) (take place text) ≡ true
    → is_plain delimiter (get_or text place d) ≡ true → list_all (is_plain delimiter) (take (place + 1) text) ≡ true
plain-more delimiter text place d below all next = rw (add-one place) (go text place below all next)
  where
    go : (text : List ℕ) (place : ℕ) → place < length text → list_all (is_plain delimiter) (take place text) ≡ true → is_plain delimiter (get_or text place d) ≡ true
        → list_all (is_plain delimiter) (take (suc place) text) ≡ true
    go [] place below all next = absurd (omega (arith, below))
    go (byte ∷ text) zero below all next = rw next refl
    go (byte ∷ text) (suc place) below all next =
        let parts = and_parts (is_plain delimiter byte) (list_all (is_plain delimiter) (take place text)) all in
        rw parts.0 (go text place (omega (arith, below)) parts.1 next)
