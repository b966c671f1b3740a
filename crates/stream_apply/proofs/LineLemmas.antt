-- A line at the start of bytes, and its key.
use Rattle.std.proofs.Common.{◌≡◌, ℕ, ◌+◌, ◌-◌, ◌≤◌, ◌<◌, true, List, [], ◌∷◌, ◌++◌, Option, None, Some, MatchOption, length, take, drop, get_or, slice_get, refl, ap, sym, subst, ◌∙◌, arith, append_assoc, length-append}
use Rattle.std.specs.List.{Contains, flat_map}
use Rattle.std.proofs.lemmas.Bool.{true≢false}
use Rattle.std.proofs.lemmas.List.{append-nil, length-map, take-append-drop, take_at, drop_more, nil_from_length}
use Rattle.std.proofs.lemmas.List.Concat.{flat_map-append}
use Rattle.std.proofs.lemmas.List.Elements.{Contains-append_right, Contains-get_or}
use Rattle.std.proofs.lemmas.Option.{slice_get-get_or, slice_get_within}
use Rattle.row_text.specs.Fields.{IsDelimiter, field_text, escaped_text}
use Rattle.row_text.specs.Lines.{IsLineAt, IsLineBody, line_text}
use Rattle.row_text.proofs.ReadLemmas.{IsLineBody-line_feed, IsLineBody-same}
use Rattle.stream_apply.specs.KeyedLines.{KeyedLine, keyed}
use Rattle.stream_apply.specs.Streams.{IsFields, IsKeyedLine, StartsNone, holds_keys_alone, key_count, text_fields}
use Rattle.stream_apply.specs.declared.key_fields.KeyFields.{KeyFields}
use Rattle.stream_apply.specs.declared.key_fields.KeyFields.TheVariants.{One, Two}
use Rattle.stream_apply.specs.declared.kind.InputKind.{InputKind}
use Rattle.stream_apply.specs.declared.kind.InputKind.TheVariants.{Snapshot}

-- where the first line feed stands
pub end-below : (bytes : List ℕ) (end : ℕ) → IsLineAt bytes 0 end → end < length bytes
end-below bytes end at = slice_get_within bytes end 10 at.line_feed

pub cut-at : (bytes : List ℕ) (end : ℕ) → IsLineAt bytes 0 end → bytes ≡ take end bytes ++ 10 ∷ drop (end + 1) bytes
cut-at bytes end at =
    let below : end < length bytes = end-below bytes end at in
    let read : Some 10 ≡ Some (get_or bytes end 0) = sym at.line_feed ∙ slice_get-get_or bytes end 0 below in
    let byte : get_or bytes end 0 ≡ 10 = cc in
    sym (take-append-drop end bytes)
    ∙ ap (λ (t : List ℕ). take end bytes ++ t) (drop_more bytes end 0 below)
    ∙ ap (λ (b : ℕ). take end bytes ++ b ∷ drop (end + 1) bytes) byte

pub cut-lacks : (bytes : List ℕ) (end : ℕ) → IsLineAt bytes 0 end → ¬ Contains (take end bytes) 10
cut-lacks bytes end at found =
    let same : end - 0 ≡ end = omega arith in
    at.first (subst (λ (n : ℕ). Contains (take n bytes) 10) (sym same) found)

-- two cuts at the first such byte are one
pub first-cut : (byte : ℕ) (xs ys more others : List ℕ) → ¬ Contains xs byte → ¬ Contains ys byte → xs ++ byte ∷ more ≡ ys ++ byte ∷ others → xs ≡ ys
first-cut byte [] [] more others none other_none same = refl
first-cut byte [] (y ∷ ys) more others none other_none same =
    let is : y ≡ byte = cc in
    absurd (other_none (subst (Contains (y ∷ ys)) is (Contains-get_or (y ∷ ys) 0 y (omega arith))))
first-cut byte (x ∷ xs) [] more others none other_none same =
    let is : x ≡ byte = cc in
    absurd (none (subst (Contains (x ∷ xs)) is (Contains-get_or (x ∷ xs) 0 x (omega arith))))
first-cut byte (x ∷ xs) (y ∷ ys) more others none other_none same =
    let first : x ≡ y = cc in
    let tails : xs ++ byte ∷ more ≡ ys ++ byte ∷ others = cc in
    let behind : xs ≡ ys = first-cut byte xs ys more others (λ found. none (Contains-append_right (x ∷ []) xs byte found)) (λ found. other_none (Contains-append_right (y ∷ []) ys byte found)) tails in
    cc

pub keyed-line_feed : (keys : KeyFields) (delimiter : ℕ) → IsDelimiter delimiter → (kind : InputKind) (line : KeyedLine) → IsKeyedLine keys delimiter kind line → ¬ Contains line.text 10
keyed-line_feed keys delimiter delimits kind line is = IsLineBody-line_feed delimiter delimits is.fields line.text is.body

-- bytes with no line feed start with no line
pub starts_none-lacks : (keys : KeyFields) (delimiter : ℕ) (kind : InputKind) (bytes : List ℕ) → ¬ Contains bytes 10 → StartsNone keys delimiter kind bytes
starts_none-lacks keys delimiter kind bytes none line rest is keyed_line =
    none (subst (λ (xs : List ℕ). Contains xs 10) (sym is) (Contains-append_right line.text (10 ∷ rest) 10 (Contains-get_or (10 ∷ rest) 0 10 (omega arith))))

-- nor do those that start with bytes that are no line of the kind
pub starts_none-no_key : (keys : KeyFields) (delimiter : ℕ) → IsDelimiter delimiter → (kind : InputKind) (bytes text rest : List ℕ) → bytes ≡ text ++ 10 ∷ rest → ¬ Contains text 10 → ((key : List ℕ) → ¬ IsKeyedLine keys delimiter kind (keyed key text)) → StartsNone keys delimiter kind bytes
starts_none-no_key keys delimiter delimits kind bytes text rest cut lacks none line behind is keyed_line =
    let same : line.text ≡ text = first-cut 10 line.text text behind rest (keyed-line_feed keys delimiter delimits kind line keyed_line) lacks (sym is ∙ cut) in
    none line.key (subst (λ (t : List ℕ). IsKeyedLine keys delimiter kind (keyed line.key t)) same keyed_line)

-- ---- the fields at the front

pub key_count-some : (keys : KeyFields) → 0 < key_count keys
key_count-some One = omega arith
key_count-some Two = omega arith

-- two fronts of one length are one, where fields are these and others
pub front-same : (front other_front : List (List ℕ)) (others other_others : List (Option (List ℕ))) → length front ≡ length other_front →
    text_fields front ++ others ≡ text_fields other_front ++ other_others → front ≡ other_front
front-same [] [] others other_others counts same = refl
front-same [] (other ∷ other_front) others other_others counts same = absurd (omega (arith, counts))
front-same (text ∷ front) [] others other_others counts same = absurd (omega (arith, counts))
front-same (text ∷ front) (other ∷ other_front) others other_others counts same =
    let first : text ≡ other = cc in
    let rest : text_fields front ++ others ≡ text_fields other_front ++ other_others = cc in
    let behind : front ≡ other_front = front-same front other_front others other_others (omega (arith, counts)) rest in
    cc

-- a line of some fields and others begins as one of the former
line_text-append : (delimiter : ℕ) (fields others : List (Option (List ℕ))) → 0 < length fields →
    (more : List ℕ) × (line_text delimiter (fields ++ others) ≡ line_text delimiter fields ++ more)
line_text-append delimiter [] others some = absurd (omega (arith, some))
line_text-append delimiter (field ∷ fields) others some = (
  flat_map (λ (f : Option (List ℕ)). (delimiter ∷ []) ++ field_text delimiter f) others,
  ap (λ (text : List ℕ). field_text delimiter field ++ text) (flat_map-append (λ (f : Option (List ℕ)). (delimiter ∷ []) ++ field_text delimiter f) fields others)
      ∙ sym (append_assoc (field_text delimiter field) (flat_map (λ (f : Option (List ℕ)). (delimiter ∷ []) ++ field_text delimiter f) fields)
      (flat_map (λ (f : Option (List ℕ)). (delimiter ∷ []) ++ field_text delimiter f) others)),
)

-- the size of the key, where the fields tell it
pub key_size-told : (keys : KeyFields) (delimiter : ℕ) → IsDelimiter delimiter → (kind : InputKind) (fields : List (Option (List ℕ))) (text : List ℕ) (size : Option ℕ) → IsLineBody delimiter fields text →
    MatchOption size ((front : List (List ℕ)) (others : List (Option (List ℕ))) → ¬ IsFields keys kind fields front others)
    (λ s. (front : List (List ℕ)) × (others : List (Option (List ℕ))) × IsFields keys kind fields front others × (s ≡ length (line_text delimiter (text_fields front)))) →
    MatchOption size ((key : List ℕ) → ¬ IsKeyedLine keys delimiter kind (keyed key text)) (λ s. (s ≤ length text) × IsKeyedLine keys delimiter kind (keyed (take s text) text))
key_size-told keys delimiter delimits kind fields text None body none = λ key line.
    none line.front line.others (subst (λ (fs : List (Option (List ℕ))). IsFields keys kind fs line.front line.others) (IsLineBody-same delimiter delimits line.fields fields text line.body body) line.parts)
key_size-told keys delimiter delimits kind fields text (Some size) body told =
    let front = told.0 in
    let others = told.1 in
    let parts : IsFields keys kind fields front others = told.2 in
    let key : List ℕ = line_text delimiter (text_fields front) in
    let some : 0 < length (text_fields front) = omega (arith, key_count-some keys, parts.count, length-map front (λ (t : List ℕ). Some t)) in
    let cut = line_text-append delimiter (text_fields front) others some in
    let whole : text ≡ key ++ cut.0 = body.written ∙ ap (line_text delimiter) parts.is ∙ cut.1 in (
      omega (arith, told.3, ap length whole, length-append key cut.0),
      record {
        fields = fields;
        front = front;
        others = others;
        body = body;
        parts = parts;
        key = ap (take size) whole ∙ take_at key cut.0 size (sym told.3);
      },
    )

-- ---- which fields are those of a line

pub few-none : (keys : KeyFields) (kind : InputKind) (fields : List (Option (List ℕ))) → length fields < key_count keys →
    (front : List (List ℕ)) (others : List (Option (List ℕ))) → ¬ IsFields keys kind fields front others
few-none keys kind fields few front others is =
    omega (arith, few, is.count, ap length is.is, length-append (text_fields front) others, length-map front (λ (t : List ℕ). Some t))

pub more-none : (keys : KeyFields) (kind : InputKind) (fields : List (Option (List ℕ))) → holds_keys_alone kind ≡ true → key_count keys < length fields →
    (front : List (List ℕ)) (others : List (Option (List ℕ))) → ¬ IsFields keys kind fields front others
more-none keys kind fields alone more front others is =
    omega (arith, more, is.count, ap length is.is, length-append (text_fields front) others, length-map front (λ (t : List ℕ). Some t), ap length (is.alone alone))

pub first_null-none : (keys : KeyFields) (kind : InputKind) (fields : List (Option (List ℕ))) → slice_get fields 0 ≡ Some None →
    (front : List (List ℕ)) (others : List (Option (List ℕ))) → ¬ IsFields keys kind fields front others
first_null-none keys kind [] null front others is = let none : None ≡ Some None = null in cc
first_null-none keys kind (field ∷ fields) null [] others is = omega (arith, key_count-some keys, is.count)
first_null-none keys kind (field ∷ fields) null (text ∷ front) others is =
    let here : field ≡ None = cc in
    let same : field ∷ fields ≡ Some text ∷ (text_fields front ++ others) = is.is in
    let there : field ≡ Some text = cc in
    let none : None ≡ Some text = sym here ∙ there in
    cc

pub second_null-none : (kind : InputKind) (fields : List (Option (List ℕ))) → slice_get fields 1 ≡ Some None →
    (front : List (List ℕ)) (others : List (Option (List ℕ))) → ¬ IsFields Two kind fields front others
second_null-none kind [] null front others is = let none : None ≡ Some None = null in cc
second_null-none kind (field ∷ fields) null [] others is = omega (arith, is.count)
second_null-none kind (field ∷ fields) null (text ∷ front) others is =
    let rest : fields ≡ text_fields front ++ others = let same : field ∷ fields ≡ Some text ∷ (text_fields front ++ others) = is.is in cc in
    first_null-none One Snapshot fields null front others (record { count = omega (arith, is.count); is = rest; alone = λ alone. absurd (true≢false (sym alone)) })

-- as many texts as a key has, and others
pub front-one : (kind : InputKind) (fields : List (Option (List ℕ))) (first : List ℕ) → slice_get fields 0 ≡ Some (Some first) → (holds_keys_alone kind ≡ true → length fields ≤ 1) →
    (others : List (Option (List ℕ))) × IsFields One kind fields (first ∷ []) others
front-one kind [] first is alone = let none : None ≡ Some (Some first) = is in cc
front-one kind (field ∷ others) first is alone =
    let same : field ≡ Some first = cc in
    (others, record { count = refl; is = ap (λ (f : Option (List ℕ)). f ∷ others) same; alone = λ holds. nil_from_length others (omega (arith, alone holds)) })

pub front-two : (kind : InputKind) (fields : List (Option (List ℕ))) (first second : List ℕ) → slice_get fields 0 ≡ Some (Some first) → slice_get fields 1 ≡ Some (Some second) →
    (holds_keys_alone kind ≡ true → length fields ≤ 2) →
    (others : List (Option (List ℕ))) × IsFields Two kind fields (first ∷ second ∷ []) others
front-two kind [] first second is next alone = let none : None ≡ Some (Some first) = is in cc
front-two kind (field ∷ fields) first second is next alone =
    let same : field ≡ Some first = cc in
    let behind = front-one kind fields second next (λ holds. omega (arith, alone holds)) in (
      behind.0,
      record {
        count = refl;
        is = ap (λ (f : Option (List ℕ)). f ∷ fields) same ∙ ap (λ (fs : List (Option (List ℕ))). Some first ∷ fs) behind.1.is;
        alone = behind.1.alone;
      },
    )

-- ---- how many bytes they are written as

pub one-size : (delimiter : ℕ) (first : List ℕ) → length (escaped_text delimiter first) ≡ length (line_text delimiter (text_fields (first ∷ [])))
one-size delimiter first = ap length (sym (append-nil (escaped_text delimiter first)))

pub two-sizes : (delimiter : ℕ) (first second : List ℕ) →
    length (escaped_text delimiter first) + 1 + length (escaped_text delimiter second) ≡ length (line_text delimiter (text_fields (first ∷ second ∷ [])))
two-sizes delimiter first second =
    omega (
      arith,
      length-append (escaped_text delimiter first) (((delimiter ∷ []) ++ escaped_text delimiter second) ++ []),
      length-append ((delimiter ∷ []) ++ escaped_text delimiter second) [],
      length-append (delimiter ∷ []) (escaped_text delimiter second),
    )

-- no more than the line
pub front-within : (delimiter : ℕ) (fields others : List (Option (List ℕ))) → 0 < length fields → length (line_text delimiter fields) ≤ length (line_text delimiter (fields ++ others))
front-within delimiter fields others some =
    let cut = line_text-append delimiter fields others some in
    omega (arith, ap length cut.1, length-append (line_text delimiter fields) cut.0)
