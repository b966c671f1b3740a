-- Lines that CSV writes alike, but for what stands between two fields.
use Rattle.std.proofs.Common.{◌≡◌, ◌≢◌, ◌<◌, ◌≤◌, ◌+◌, ◌-◌, ℕ, zero, suc, ◌==◌, List, [], ◌∷◌, ◌++◌, false, true, length, get_or, take, refl, sym, ap, subst, ◌∙◌, inl, inr, append_assoc, add-one, arith}
use Rattle.std.specs.Prelude.{◌&&◌, not}
use Rattle.std.proofs.lemmas.Bool.{cases_eq, cases_lt, eq-eqb, eqb-true, ne_eqb, or_parts}
use Rattle.std.proofs.lemmas.List.{append-nil, get_or-take, length-take-le}
use Rattle.std.proofs.lemmas.List.Folds.{list_any-append}
use Rattle.csv.specs.Writing.{default_writer, field_text, fields_text, is_blank, needs_byte, needs_quotes, row_body}
use Rattle.row_text.specs.Fields.{IsDelimiter}
use Rattle.csv_face.specs.Alike.{AreAlike, BeginsALine, EndsALine, StandAlike, byte_in_csv, may_differ, with_commas}
use Rattle.csv_face.specs.Csv.{record_text, records_text}
use Rattle.csv_face.specs.Scan.{records_behind}
use Rattle.csv_face.proofs.ScanLemmas.{delimiter-behind, letter-behind, line_feed-behind, plain}

-- a field that wants no quotes
abbrev IsBare : List ℕ → Type 0
IsBare field = needs_quotes default_writer field ≡ false

-- what a byte of such lines is
data Kind (delimiter byte next : ℕ) : Type 0 where
  is_line_feed : byte ≡ 10 → next ≢ 10 → Kind delimiter byte next
  is_delimiter : byte ≡ delimiter → Kind delimiter byte next
  is_null : byte ≡ 92 → next ≡ 78 → Kind delimiter byte next
  is_itself : byte ≢ 92 → byte ≢ delimiter → byte ≢ 10 → IsBare (byte ∷ []) → Kind delimiter byte next

kind : (delimiter byte next : ℕ) → may_differ byte next ≡ false → Kind delimiter byte next
kind delimiter byte next same =
    let ends = or_parts _ ((byte == 10) && (next == 10)) same in
    let escapes = or_parts _ ((byte == 92) && not (next == 78)) ends.0 in
    let returns = or_parts _ (byte == 13) escapes.0 in
    let quotes = or_parts (byte == 34) (byte == 44) returns.0 in
    elim (cases_eq byte 10) [
      | inl is ↦ is_line_feed is (other_next is ends.1)
      | inr inside ↦ elim (cases_eq byte delimiter) [
        | inl is ↦ is_delimiter is
        | inr no_delimiter ↦ elim (cases_eq byte 92) [
          | inl is ↦ is_null is (n_next is escapes.1)
          | inr no_escape ↦ is_itself no_escape no_delimiter inside (simp (quotes.0, quotes.1, returns.1, ne_eqb byte 10 inside) refl)
        ]
      ]
    ]
  where
    other_next : byte ≡ 10 → ((byte == 10) && (next == 10)) ≡ false → next ≢ 10
    other_next is apart same = cc (simp (is, same) at apart)

    n_next : byte ≡ 92 → ((byte == 92) && not (next == 78)) ≡ false → next ≡ 78
    n_next is same = elim (cases_eq next 78) [
      | inl n ↦ n
      | inr other ↦ absurd (cc (simp (is, ne_eqb next 78 other) at same))
    ]

bare-append : (field more : List ℕ) → IsBare field → IsBare more → IsBare (field ++ more)
bare-append field more one two = list_any-append (needs_byte default_writer) field more ∙ simp (one, two) refl

-- ---- the record at hand

body-more : (fields : List (List ℕ)) (field more : List ℕ) → IsBare field → IsBare more
    → row_body default_writer (fields ++ (field ++ more) ∷ []) ≡ row_body default_writer (fields ++ field ∷ []) ++ more
unfolding fields_text
body-more [] field more one two = simp (one, bare-append field more one two, append-nil) refl
body-more (first ∷ fields) field more one two =
    ap (λ (t : List ℕ). field_text default_writer first ++ t) (go fields) ∙ sym (append_assoc (field_text default_writer first) (fields_text default_writer (fields ++ field ∷ [])) more)
  where
    go : (fields : List (List ℕ)) → fields_text default_writer (fields ++ (field ++ more) ∷ []) ≡ fields_text default_writer (fields ++ field ∷ []) ++ more
    go [] = simp (one, bare-append field more one two, append-nil) refl
    go (other ∷ fields) =
        ap (λ (t : List ℕ). 44 ∷ (field_text default_writer other ++ t)) (go fields)
        ∙ ap (λ (t : List ℕ). 44 ∷ t) (sym (append_assoc (field_text default_writer other) (fields_text default_writer (fields ++ field ∷ [])) more))

body-next : (fields : List (List ℕ)) (field : List ℕ)
    → row_body default_writer ((fields ++ field ∷ []) ++ [] ∷ []) ≡ row_body default_writer (fields ++ field ∷ []) ++ 44 ∷ []
unfolding fields_text
body-next [] field = go field []
  where
    go : (field : List ℕ) (fields : List (List ℕ)) → field_text default_writer field ++ fields_text default_writer ([] ∷ []) ≡ (field_text default_writer field ++ []) ++ 44 ∷ []
    go field fields = ap (λ (t : List ℕ). t ++ 44 ∷ []) (sym (append-nil (field_text default_writer field)))
body-next (first ∷ fields) field =
    ap (λ (t : List ℕ). field_text default_writer first ++ t) (go fields) ∙ sym (append_assoc (field_text default_writer first) (fields_text default_writer (fields ++ field ∷ [])) (44 ∷ []))
  where
    go : (fields : List (List ℕ)) → fields_text default_writer ((fields ++ field ∷ []) ++ [] ∷ []) ≡ fields_text default_writer (fields ++ field ∷ []) ++ 44 ∷ []
    go [] = ap (λ (t : List ℕ). 44 ∷ t) (ap (λ (t : List ℕ). t ++ 44 ∷ []) (sym (append-nil (field_text default_writer field))))
    go (other ∷ fields) =
        ap (λ (t : List ℕ). 44 ∷ (field_text default_writer other ++ t)) (go fields)
        ∙ ap (λ (t : List ℕ). 44 ∷ t) (sym (append_assoc (field_text default_writer other) (fields_text default_writer (fields ++ field ∷ [])) (44 ∷ [])))

-- a record shows something
Shows : List (List ℕ) → List ℕ → Type 0
Shows fields field = is_blank default_writer (fields ++ field ∷ []) ≡ false

shows-more : (fields : List (List ℕ)) (field : List ℕ) (byte : ℕ) (more : List ℕ) → IsBare field → IsBare (byte ∷ more) → Shows fields (field ++ byte ∷ more)
unfolding Shows is_blank
shows-more [] [] byte more one two = simp two (ne_eqb (length (byte ∷ more)) 0 (omega arith))
shows-more [] (first ∷ field) byte more one two = simp (bare-append (first ∷ field) (byte ∷ more) one two) (ne_eqb (length (first ∷ (field ++ byte ∷ more))) 0 (omega arith))
shows-more (first ∷ []) field byte more one two = refl
shows-more (first ∷ other ∷ fields) field byte more one two = refl

shows-next : (fields : List (List ℕ)) (field : List ℕ) → Shows (fields ++ field ∷ []) []
unfolding Shows is_blank
shows-next [] field = refl
shows-next (first ∷ []) field = refl
shows-next (first ∷ other ∷ fields) field = refl

record-text : (fields : List (List ℕ)) (field : List ℕ) → Shows fields field
    → record_text (fields ++ field ∷ []) ≡ row_body default_writer (fields ++ field ∷ []) ++ 10 ∷ []
unfolding Shows
record-text fields field shows = simp shows refl

-- ---- lines

-- what is read of a text, and then of a rest, is its lines with commas and what is read of the rest
Reads : ℕ → List ℕ → List (List ℕ) → List ℕ → List ℕ → Type 0
Reads delimiter rest fields field text =
    records_text (records_behind delimiter fields field false (text ++ rest))
    ≡ row_body default_writer (fields ++ field ∷ []) ++ (with_commas delimiter text ++ records_text (records_behind delimiter [] [] false rest))

no_line_feed : (delimiter : ℕ) → IsDelimiter delimiter → 10 ≢ delimiter
no_line_feed delimiter (inl tab) same = absurd (omega (arith, tab, same))
no_line_feed delimiter (inr bar) same = absurd (omega (arith, bar, same))

no_backslash : (delimiter : ℕ) → IsDelimiter delimiter → 92 ≢ delimiter
no_backslash delimiter (inl tab) same = absurd (omega (arith, tab, same))
no_backslash delimiter (inr bar) same = absurd (omega (arith, bar, same))

no_n : (delimiter : ℕ) → IsDelimiter delimiter → 78 ≢ delimiter
no_n delimiter (inl tab) same = absurd (omega (arith, tab, same))
no_n delimiter (inr bar) same = absurd (omega (arith, bar, same))

in_csv-itself : (delimiter byte : ℕ) → byte ≢ delimiter → byte_in_csv delimiter byte ≡ byte
in_csv-itself delimiter byte other = simp (ne_eqb byte delimiter other) refl

read-line_feed : (delimiter : ℕ) → IsDelimiter delimiter → (rest : List ℕ) (fields : List (List ℕ)) (field : List ℕ) (byte : ℕ) (text : List ℕ)
    → byte ≡ 10 → Shows fields field
    → records_text (records_behind delimiter [] [] false (text ++ rest)) ≡ with_commas delimiter text ++ records_text (records_behind delimiter [] [] false rest)
    → Reads delimiter rest fields field (byte ∷ text)
unfolding Reads
read-line_feed delimiter may_stand rest fields field byte text is shows others =
    let body : List ℕ = row_body default_writer (fields ++ field ∷ []) in
    let tail : List ℕ = with_commas delimiter text ++ records_text (records_behind delimiter [] [] false rest) in
    ap (λ (b : ℕ). records_text (records_behind delimiter fields field false (b ∷ (text ++ rest)))) is
    ∙ ap records_text (line_feed-behind delimiter may_stand fields field (text ++ rest))
    ∙ ap (λ (t : List ℕ). t ++ records_text (records_behind delimiter [] [] false (text ++ rest))) (record-text fields field shows)
    ∙ ap (λ (t : List ℕ). (body ++ 10 ∷ []) ++ t) others
    ∙ append_assoc body (10 ∷ []) tail
    ∙ ap (λ (b : ℕ). body ++ b ∷ tail) (sym (ap (byte_in_csv delimiter) is ∙ in_csv-itself delimiter 10 (no_line_feed delimiter may_stand)))

read-delimiter : (delimiter : ℕ) → IsDelimiter delimiter → (rest : List ℕ) (fields : List (List ℕ)) (field : List ℕ) (byte : ℕ) (text : List ℕ)
    → byte ≡ delimiter → Reads delimiter rest (fields ++ field ∷ []) [] text → Reads delimiter rest fields field (byte ∷ text)
unfolding Reads
read-delimiter delimiter may_stand rest fields field byte text is others =
    let body : List ℕ = row_body default_writer (fields ++ field ∷ []) in
    let tail : List ℕ = with_commas delimiter text ++ records_text (records_behind delimiter [] [] false rest) in
    ap (λ (b : ℕ). records_text (records_behind delimiter fields field false (b ∷ (text ++ rest)))) is
    ∙ ap records_text (delimiter-behind delimiter may_stand fields field (text ++ rest))
    ∙ others
    ∙ ap (λ (t : List ℕ). t ++ tail) (body-next fields field)
    ∙ append_assoc body (44 ∷ []) tail
    ∙ ap (λ (b : ℕ). body ++ b ∷ tail) (sym (ap (byte_in_csv delimiter) is ∙ simp (eq-eqb delimiter delimiter refl) refl))

-- bytes that stand in the field as they are
read-bytes : (delimiter : ℕ) (rest : List ℕ) (fields : List (List ℕ)) (field bytes text : List ℕ) → IsBare field → IsBare bytes
    → records_behind delimiter fields field false (bytes ++ (text ++ rest)) ≡ records_behind delimiter fields (field ++ bytes) false (text ++ rest)
    → Reads delimiter rest fields (field ++ bytes) text
    → records_text (records_behind delimiter fields field false (bytes ++ (text ++ rest)))
    ≡ row_body default_writer (fields ++ field ∷ []) ++ (bytes ++ (with_commas delimiter text ++ records_text (records_behind delimiter [] [] false rest)))
unfolding Reads
read-bytes delimiter rest fields field bytes text one two here others =
    let body : List ℕ = row_body default_writer (fields ++ field ∷ []) in
    let tail : List ℕ = with_commas delimiter text ++ records_text (records_behind delimiter [] [] false rest) in
    ap records_text here
    ∙ others
    ∙ ap (λ (t : List ℕ). t ++ tail) (body-more fields field bytes one two)
    ∙ append_assoc body bytes tail

read-itself : (delimiter : ℕ) (rest : List ℕ) (fields : List (List ℕ)) (field : List ℕ) (byte : ℕ) (text : List ℕ) → IsBare field
    → byte ≢ 92 → byte ≢ delimiter → byte ≢ 10 → IsBare (byte ∷ []) → Reads delimiter rest fields (field ++ byte ∷ []) text → Reads delimiter rest fields field (byte ∷ text)
unfolding Reads
read-itself delimiter rest fields field byte text one no_escape no_delimiter no_end two others =
    read-bytes delimiter rest fields field (byte ∷ []) text one two (plain delimiter fields field byte (text ++ rest) no_escape no_delimiter no_end) others
    ∙ ap (λ (b : ℕ). row_body default_writer (fields ++ field ∷ []) ++ b ∷ (with_commas delimiter text ++ records_text (records_behind delimiter [] [] false rest)))
    (sym (in_csv-itself delimiter byte no_delimiter))

read-null : (delimiter : ℕ) → IsDelimiter delimiter → (rest : List ℕ) (fields : List (List ℕ)) (field : List ℕ) (byte next : ℕ) (text : List ℕ) → IsBare field
    → byte ≡ 92 → next ≡ 78 → Reads delimiter rest fields (field ++ 92 ∷ 78 ∷ []) text → Reads delimiter rest fields field (byte ∷ next ∷ text)
unfolding Reads
read-null delimiter may_stand rest fields field byte next text bare is n others =
    let body : List ℕ = row_body default_writer (fields ++ field ∷ []) in
    let tail : List ℕ = with_commas delimiter text ++ records_text (records_behind delimiter [] [] false rest) in
    ap (λ (b : ℕ). records_text (records_behind delimiter fields field false (b ∷ next ∷ (text ++ rest)))) is
    ∙ ap (λ (b : ℕ). records_text (records_behind delimiter fields field false (92 ∷ b ∷ (text ++ rest)))) n
    ∙ read-bytes delimiter rest fields field (92 ∷ 78 ∷ []) text bare refl (letter-behind delimiter fields field 78 (text ++ rest)) others
    ∙ ap (λ (b : ℕ). body ++ b ∷ 78 ∷ tail) (sym (ap (byte_in_csv delimiter) is ∙ in_csv-itself delimiter 92 (no_backslash delimiter may_stand)))
    ∙ ap (λ (b : ℕ). body ++ byte_in_csv delimiter byte ∷ b ∷ tail) (sym (ap (byte_in_csv delimiter) n ∙ in_csv-itself delimiter 78 (no_n delimiter may_stand)))

Stand : List ℕ → Type 0
Stand text = (k : ℕ) → suc k < length text → may_differ (get_or text k 0) (get_or text (suc k) 0) ≡ false

stand-rest : (byte : ℕ) (text : List ℕ) → Stand (byte ∷ text) → Stand text
unfolding Stand
stand-rest byte text stand k below = stand (suc k) (omega (arith, below))

stand-first : (byte next : ℕ) (text : List ℕ) → Stand (byte ∷ next ∷ text) → may_differ byte next ≡ false
unfolding Stand
stand-first byte next text stand = stand 0 (omega arith)

stand-from : (text : List ℕ) → AreAlike text → Stand text
unfolding Stand
stand-from text lines k below = subst (λ (n : ℕ). may_differ (get_or text k 0) (get_or text n 0) ≡ false) (add-one k) (lines.stand k (omega (arith, below)))

-- a byte that isn't the last, by what is read of those after it
read-byte : (delimiter : ℕ) → IsDelimiter delimiter → (rest : List ℕ) (fields : List (List ℕ)) (field : List ℕ) (byte next : ℕ) (text : List ℕ)
    → IsBare field → (byte ≡ 10 → Shows fields field) → may_differ byte next ≡ false
    → (next ≢ 10 → Reads delimiter rest [] [] (next ∷ text))
    → Reads delimiter rest (fields ++ field ∷ []) [] (next ∷ text)
    → (IsBare (byte ∷ []) → Reads delimiter rest fields (field ++ byte ∷ []) (next ∷ text))
    → (next ≡ 78 → Reads delimiter rest fields (field ++ 92 ∷ 78 ∷ []) text)
    → Reads delimiter rest fields field (byte ∷ next ∷ text)
unfolding Reads fields_text
read-byte delimiter may_stand rest fields field byte next text bare shows same new_line new_field more after_null = elim (kind delimiter byte next same) [
  | is_line_feed is other ↦ read-line_feed delimiter may_stand rest fields field byte (next ∷ text) is (shows is) (line-start (new_line other))
  | is_delimiter is ↦ read-delimiter delimiter may_stand rest fields field byte (next ∷ text) is new_field
  | is_null is n ↦ read-null delimiter may_stand rest fields field byte next text bare is n (after_null n)
  | is_itself no_escape no_delimiter inside two ↦ read-itself delimiter rest fields field byte (next ∷ text) bare no_escape no_delimiter inside two (more two)
]
  where
    line-start : Reads delimiter rest [] [] (next ∷ text)
        → records_text (records_behind delimiter [] [] false ((next ∷ text) ++ rest)) ≡ with_commas delimiter (next ∷ text) ++ records_text (records_behind delimiter [] [] false rest)
    line-start is = is

lines-from : (delimiter : ℕ) → IsDelimiter delimiter → (rest : List ℕ) (fields : List (List ℕ)) (field : List ℕ) (byte : ℕ) (text : List ℕ)
    → IsBare field → (byte ≡ 10 → Shows fields field) → EndsALine (byte ∷ text) → Stand (byte ∷ text) → Reads delimiter rest fields field (byte ∷ text)
unfolding EndsALine
lines-from delimiter may_stand rest fields field byte [] bare shows ends stand = read-line_feed delimiter may_stand rest fields field byte [] ends (shows ends) refl
lines-from delimiter may_stand rest fields field byte (next ∷ []) bare shows ends stand =
    let behind = stand-rest byte (next ∷ []) stand in
    read-byte delimiter may_stand rest fields field byte next [] bare shows (stand-first byte next [] stand)
    (λ other. lines-from delimiter may_stand rest [] [] next [] refl (λ is. absurd (other is)) ends behind)
    (lines-from delimiter may_stand rest (fields ++ field ∷ []) [] next [] refl (λ _. shows-next fields field) ends behind)
    (λ two. lines-from delimiter may_stand rest fields (field ++ byte ∷ []) next [] (bare-append field (byte ∷ []) bare two) (λ _. shows-more fields field byte [] bare two) ends behind)
    (λ n. absurd (omega (arith, ends, n)))
lines-from delimiter may_stand rest fields field byte (next ∷ third ∷ text) bare shows ends stand =
    let behind = stand-rest byte (next ∷ third ∷ text) stand in
    read-byte delimiter may_stand rest fields field byte next (third ∷ text) bare shows (stand-first byte next (third ∷ text) stand)
    (λ other. lines-from delimiter may_stand rest [] [] next (third ∷ text) refl (λ is. absurd (other is)) ends behind)
    (lines-from delimiter may_stand rest (fields ++ field ∷ []) [] next (third ∷ text) refl (λ _. shows-next fields field) ends behind)
    (λ two. lines-from delimiter may_stand rest fields (field ++ byte ∷ []) next (third ∷ text) (bare-append field (byte ∷ []) bare two) (λ _. shows-more fields field byte [] bare two) ends behind)
    (λ n. lines-from delimiter may_stand rest fields (field ++ 92 ∷ 78 ∷ []) third text (bare-append field (92 ∷ 78 ∷ []) bare refl) (λ _. shows-more fields field 92 (78 ∷ []) bare refl) ends
    (stand-rest next (third ∷ text) behind))

-- what is read of such lines, and then of a rest
pub alike-behind : (delimiter : ℕ) → IsDelimiter delimiter → (text rest : List ℕ) → AreAlike text
    → records_text (records_behind delimiter [] [] false (text ++ rest)) ≡ with_commas delimiter text ++ records_text (records_behind delimiter [] [] false rest)
unfolding Reads fields_text
alike-behind delimiter may_stand [] rest lines = refl
alike-behind delimiter may_stand (byte ∷ text) rest lines =
    lines-from delimiter may_stand rest [] [] byte text refl (λ is. absurd (lines.begins is)) lines.ends (stand-from (byte ∷ text) lines)

-- ---- how many

pub none-alike : AreAlike []
unfolding EndsALine
none-alike = record { begins = tt; ends = tt; stand = λ k below. absurd (omega (arith, below)) }

ends-take : (size : ℕ) (text : List ℕ) → size < length text → get_or text size 0 ≡ 10 → EndsALine (take (suc size) text)
unfolding EndsALine
ends-take size [] below is = absurd (omega (arith, below))
ends-take zero (byte ∷ []) below is = is
ends-take zero (byte ∷ next ∷ text) below is = is
ends-take (suc size) (byte ∷ []) below is = absurd (omega (arith, below))
ends-take (suc size) (byte ∷ next ∷ text) below is = ends-take size (next ∷ text) (omega (arith, below)) is

begins-take : (size : ℕ) (text : List ℕ) → get_or text 0 0 ≢ 10 → BeginsALine (take (suc size) text)
begins-take size [] other = tt
begins-take size (byte ∷ text) other = other

-- the first bytes of a text, up to a line feed
pub take-alike : (text : List ℕ) (most size : ℕ) → most < length text → StandAlike text 0 most → get_or text 0 0 ≢ 10 → size < most → get_or text size 0 ≡ 10
    → AreAlike (take (suc size) text)
take-alike text most size within stand other below is = record {
  begins = begins-take size text other;
  ends = ends-take size text (omega (arith, below, within)) is;
  stand = λ k more.
      let short : length (take (suc size) text) ≤ suc size = omega (arith, length-take-le (suc size) text (omega (arith, below, within))) in
      let first : k < suc size = omega (arith, more, short) in
      let second : k + 1 < suc size = omega (arith, more, short) in
      rw (get_or-take (suc size) text k 0 first, get_or-take (suc size) text (k + 1) 0 second)
      (subst (λ (n : ℕ). may_differ (get_or text n 0) (get_or text (n + 1) 0) ≡ false) (omega arith) (stand k (omega (arith, below, first))));
}

-- one block more
pub stand-more : (text : List ℕ) (size count : ℕ) → StandAlike text 0 size → StandAlike text size count → StandAlike text 0 (size + count)
stand-more text size count before block k below = elim (cases_lt k size) [
  | inl first ↦ before k first
  | inr later ↦ subst (λ (n : ℕ). may_differ (get_or text n 0) (get_or text (n + 1) 0) ≡ false) (omega (arith, later)) (block (k - size) (omega (arith, below, later)))
]

pub none-left : (rest : List ℕ) → (length rest == 0) ≡ true → rest ≡ []
none-left [] none = refl
none-left (byte ∷ rest) none = absurd (omega (arith, eqb-true (length (byte ∷ rest)) 0 none))
