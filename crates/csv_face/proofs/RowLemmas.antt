-- The fields of a record in turn, and the lines of records.
use Rattle.std.proofs.Common.{◌≡◌, ℕ, zero, suc, ◌+◌, ◌<◌, ◌≤◌, Bool, List, [], ◌∷◌, ◌++◌, Option, None, Some, true, false, get_or, length, map, drop, take, refl, sym, ap, ◌∙◌, arith, append_assoc, add-one}
use Rattle.std.specs.Prelude.{flat_map, not}
use Rattle.std.specs.Str.{bytes_eq}
use Rattle.std.proofs.lemmas.Slice.Eq.{bytes_eq-Decides}
use Rattle.std.specs.List.{list_any}
use Rattle.std.proofs.lemmas.List.{append-nil, map-append}
use Rattle.std.proofs.lemmas.List.Concat.{flat_map-append}
use Rattle.csv.specs.Records.{field_at}
use Rattle.row_text.specs.Fields.{field_text}
use Rattle.row_text.specs.Lines.{line_text}
use Rattle.csv_face.specs.Csv.{Row, rows_text}
use Rattle.csv_face.specs.Reading.{row_field}

drop-Some-suc : (fields : List (List ℕ)) (i : ℕ) (field : List ℕ) → field_at fields i ≡ Some field → drop i fields ≡ field ∷ drop (suc i) fields
unfolding field_at
drop-Some-suc [] i field is = cc is
drop-Some-suc (first ∷ fields) zero field is = let same : first ≡ field = cc is in ap (λ (f : List ℕ). f ∷ fields) same
drop-Some-suc (first ∷ fields) (suc i) field is = drop-Some-suc fields i field is

-- what is after the field at a place
pub drop-Some : (fields : List (List ℕ)) (i : ℕ) (field : List ℕ) → field_at fields i ≡ Some field → drop i fields ≡ field ∷ drop (i + 1) fields
drop-Some fields i field is = rw (add-one i) (drop-Some-suc fields i field is)

take-Some-suc : (fields : List (List ℕ)) (i : ℕ) (field : List ℕ) → field_at fields i ≡ Some field → take (suc i) fields ≡ take i fields ++ field ∷ []
unfolding field_at
take-Some-suc [] i field is = cc is
take-Some-suc (first ∷ fields) zero field is = let same : first ≡ field = cc is in ap (λ (f : List ℕ). f ∷ []) same
take-Some-suc (first ∷ fields) (suc i) field is = ap (λ (t : List (List ℕ)). first ∷ t) (take-Some-suc fields i field is)

-- the fields up to and with the one at a place
pub take-Some : (fields : List (List ℕ)) (i : ℕ) (field : List ℕ) → field_at fields i ≡ Some field → take (i + 1) fields ≡ take i fields ++ field ∷ []
take-Some fields i field is = rw (add-one i) (take-Some-suc fields i field is)

-- no field is at a place only past the last
pub length-None : (fields : List (List ℕ)) (i : ℕ) → field_at fields i ≡ None → length fields ≤ i
unfolding field_at
length-None [] i is = omega arith
length-None (first ∷ fields) zero is = cc is
length-None (first ∷ fields) (suc i) is = omega (arith, length-None fields i is)

-- whether a field is bad, from the first that isn't known
pub any-found : (p : List ℕ → Bool) (fields : List (List ℕ)) (i : ℕ) (field : List ℕ) → field_at fields i ≡ Some field → p field ≡ true → list_any p (drop i fields) ≡ true
any-found p fields i field is bad = rw (drop-Some fields i field is, bad) refl

pub any-next : (p : List ℕ → Bool) (fields : List (List ℕ)) (i : ℕ) (field : List ℕ) → field_at fields i ≡ Some field → p field ≡ false → list_any p (drop i fields) ≡ list_any p (drop (i + 1) fields)
any-next p fields i field is good = rw (drop-Some fields i field is, good) refl

-- a line with one field more
line_text-first : (delimiter : ℕ) (field : Option (List ℕ)) → line_text delimiter (field ∷ []) ≡ field_text delimiter field
line_text-first delimiter field = append-nil (field_text delimiter field)

line_text-more : (delimiter : ℕ) (first : Option (List ℕ)) (fields : Row) (field : Option (List ℕ))
    → line_text delimiter ((first ∷ fields) ++ field ∷ []) ≡ (line_text delimiter (first ∷ fields) ++ delimiter ∷ []) ++ field_text delimiter field
line_text-more delimiter first fields field =
    let behind : Option (List ℕ) → List ℕ = λ f. (delimiter ∷ []) ++ field_text delimiter f in
    ap (λ (t : List ℕ). field_text delimiter first ++ t)
    (flat_map-append behind fields (field ∷ []) ∙ ap (λ (t : List ℕ). flat_map behind fields ++ t) (append-nil (behind field)))
    ∙ sym (append_assoc (field_text delimiter first) (flat_map behind fields) (behind field))
    ∙ sym (append_assoc (field_text delimiter first ++ flat_map behind fields) (delimiter ∷ []) (field_text delimiter field))

-- a text after which fields of a record are put: the first one, and each other after a delimiter
pub put-first : (delimiter i : ℕ) (fields : List (List ℕ)) (field old before after : List ℕ) → i ≤ 0 → field_at fields i ≡ Some field
    → before ≡ old ++ line_text delimiter (map row_field (take i fields)) → after ≡ before ++ field_text delimiter (row_field field)
    → after ≡ old ++ line_text delimiter (map row_field (take (i + 1) fields))
put-first delimiter zero fields field old before after first is so_far put =
    put ∙ ap (λ (t : List ℕ). t ++ field_text delimiter (row_field field)) (so_far ∙ append-nil old)
    ∙ ap (λ (t : List ℕ). old ++ t) (sym (line_text-first delimiter (row_field field)))
    ∙ ap (λ (f : List (List ℕ)). old ++ line_text delimiter (map row_field f)) (sym (take-Some fields 0 field is))
put-first delimiter (suc i) fields field old before after first is so_far put = absurd (omega (arith, first))

more : (delimiter : ℕ) (known fields : List (List ℕ)) (field old before between after : List ℕ) → 0 < length known
    → before ≡ old ++ line_text delimiter (map row_field known) → between ≡ before ++ delimiter ∷ [] → after ≡ between ++ field_text delimiter (row_field field)
    → after ≡ old ++ line_text delimiter (map row_field (known ++ field ∷ []))
more delimiter [] fields field old before between after some so_far mark put = absurd (omega (arith, some))
more delimiter (first ∷ known) fields field old before between after some so_far mark put =
    let line : List ℕ = line_text delimiter (map row_field (first ∷ known)) in
    put ∙ ap (λ (t : List ℕ). t ++ field_text delimiter (row_field field)) (mark ∙ ap (λ (t : List ℕ). t ++ delimiter ∷ []) so_far ∙ append_assoc old line (delimiter ∷ []))
    ∙ append_assoc old (line ++ delimiter ∷ []) (field_text delimiter (row_field field))
    ∙ ap (λ (t : List ℕ). old ++ t) (sym (line_text-more delimiter (row_field first) (map row_field known) (row_field field)))
    ∙ ap (λ (r : Row). old ++ line_text delimiter r) (sym (map-append row_field (first ∷ known) (field ∷ [])))

take-some : (fields : List (List ℕ)) (i : ℕ) (field : List ℕ) → 0 < i → field_at fields i ≡ Some field → 0 < length (take i fields)
unfolding field_at
take-some [] i field later is = cc is
take-some (first ∷ fields) zero field later is = absurd (omega (arith, later))
take-some (first ∷ fields) (suc i) field later is = omega arith

pub put-more : (delimiter i : ℕ) (fields : List (List ℕ)) (field old before between after : List ℕ) → 0 < i → field_at fields i ≡ Some field
    → before ≡ old ++ line_text delimiter (map row_field (take i fields)) → between ≡ before ++ delimiter ∷ [] → after ≡ between ++ field_text delimiter (row_field field)
    → after ≡ old ++ line_text delimiter (map row_field (take (i + 1) fields))
put-more delimiter i fields field old before between after later is so_far mark put =
    more delimiter (take i fields) fields field old before between after (take-some fields i field later is) so_far mark put
    ∙ ap (λ (f : List (List ℕ)). old ++ line_text delimiter (map row_field f)) (sym (take-Some fields i field is))

-- the lines of records with one more
pub rows_text-more : (delimiter : ℕ) (records : List (List (List ℕ))) (fields : List (List ℕ))
    → rows_text delimiter (map (map row_field) (records ++ fields ∷ [])) ≡ rows_text delimiter (map (map row_field) records) ++ (line_text delimiter (map row_field fields) ++ 10 ∷ [])
rows_text-more delimiter records fields =
    let line : Row → List ℕ = λ row. line_text delimiter row ++ 10 ∷ [] in
    ap (rows_text delimiter) (map-append (map row_field) records (fields ∷ []))
    ∙ flat_map-append line (map (map row_field) records) (map row_field fields ∷ [])
    ∙ ap (λ (t : List ℕ). rows_text delimiter (map (map row_field) records) ++ t) (append-nil (line (map row_field fields)))

-- ---- a record beside names

names-more : (names : List (List ℕ)) (i : ℕ) (d : List ℕ) → i < length names → take (i + 1) names ≡ take i names ++ get_or names i d ∷ []
names-more names i d below = ap (λ (n : ℕ). take n names) (add-one i) ∙ go names i below
  where
    go : (names : List (List ℕ)) (i : ℕ) → i < length names → take (suc i) names ≡ take i names ++ get_or names i d ∷ []
    go [] i below = absurd (omega (arith, below))
    go (name ∷ names) zero below = refl
    go (name ∷ names) (suc i) below = ap (λ (rest : List (List ℕ)). name ∷ rest) (go names i (omega (arith, below)))

field-item : (fields : List (List ℕ)) (i : ℕ) (field d : List ℕ) → field_at fields i ≡ Some field → get_or fields i d ≡ field
unfolding field_at
field-item [] i field d is = absurd (cc)
field-item (first ∷ fields) zero field d is = cc
field-item (first ∷ fields) (suc i) field d is = field-item fields i field d is

same-field : (field name : List ℕ) → false ≡ not (bytes_eq field name) → field ≡ name
same-field field name is = (bytes_eq-Decides field name).0 (of (bytes_eq field name) is)
  where
    of : (b : Bool) → false ≡ not b → b ≡ true
    of true is = refl
    of false is = absurd (cc)

-- one more field is a name
pub same-more : (fields names : List (List ℕ)) (i : ℕ) (field name d : List ℕ) → field_at fields i ≡ Some field → i < length names → name ≡ get_or names i d →
    false ≡ not (bytes_eq field name) → take i fields ≡ take i names → take (i + 1) fields ≡ take (i + 1) names
same-more fields names i field name d is below name_is same so_far =
    take-Some fields i field is ∙ ap (λ (front : List (List ℕ)). front ++ field ∷ []) so_far
    ∙ ap (λ (f : List ℕ). take i names ++ f ∷ []) (same-field field name same ∙ name_is) ∙ sym (names-more names i d below)

-- a field is none
pub other-names : (fields names : List (List ℕ)) (i : ℕ) (field name d : List ℕ) → field_at fields i ≡ Some field → name ≡ get_or names i d →
    true ≡ not (bytes_eq field name) → fields ≡ names → ⊥
other-names fields names i field name d is name_is differs same =
    let equal : field ≡ name = sym (field-item fields i field d is) ∙ ap (λ (l : List (List ℕ)). get_or l i d) same ∙ sym name_is in
    never (bytes_eq field name) ((bytes_eq-Decides field name).1 equal) differs
  where
    never : (b : Bool) → b ≡ true → true ≡ not b → ⊥
    never true is differs = absurd (cc)
    never false is differs = absurd (cc)
