-- A line body read byte by byte.
use Rattle.std.proofs.Common.{◌≡◌, ◌≢◌, ℕ, ◌+◌, ◌<◌, List, [], ◌∷◌, ◌++◌, Option, None, Some, length, take, drop, get_or, refl, ap, sym, subst, ◌∙◌, ◌⊎◌, inl, inr, arith, append_assoc, length-append, IfSome, is_some, Bool, true, false}
use Rattle.std.specs.Bool.{OnFalse}
use Rattle.std.proofs.lemmas.List.{append-nil, take_more, take_all, take-take, take-append-drop}
use Rattle.std.specs.List.{Contains, flat_map}
use Rattle.std.proofs.lemmas.List.Elements.{Contains-append_cases}
use Rattle.std.proofs.lemmas.List.Concat.{flat_map-append}
use Rattle.std.proofs.lemmas.Bool.{cases_lt, ne_eqb, false≢true}
use Rattle.row_text.specs.Fields.{IsDelimiter, EndsField, escaped, escaped_text, field_text}
use Rattle.row_text.specs.Lines.{line_text, IsLineBody, BeginsLineBody, IsBadAt}
use Rattle.row_text.specs.SplitLines.{fields_before, field_so_far}
use Rattle.row_text.specs.declared.split_lines.Place.{Place}
use Rattle.row_text.specs.declared.split_lines.Place.TheVariants.{Text, Backslash, Null}
use Rattle.row_text.proofs.EscapeLemmas.{itself, escape, form, byte_of}
use Rattle.row_text.proofs.LawLemmas.{field_text-line_feed, IsEnd, escaped-same, ends-apart, null-apart, field_text-same}

-- the byte that a letter tells
pub written_as : (delimiter byte letter : ℕ) → escaped delimiter byte ≡ 92 ∷ letter ∷ [] → byte ≡ byte_of letter
written_as delimiter byte letter is =
    elim (form delimiter byte) [
      | itself written _ _ _ _ _ ↦
          let lists : 92 ∷ letter ∷ [] ≡ byte ∷ [] = sym is ∙ written in
          cc
      | escape other written back _ _ _ _ ↦
          let lists : 92 ∷ letter ∷ [] ≡ 92 ∷ other ∷ [] = sym is ∙ written in
          let same : other ≡ letter = cc in
          back ∙ ap byte_of same
    ]

-- a letter that tells itself
pub byte_of-itself : (letter : ℕ) → letter ≢ 98 → letter ≢ 116 → letter ≢ 110 → letter ≢ 118 → letter ≢ 102 → letter ≢ 114 → byte_of letter ≡ letter
byte_of-itself letter not_b not_t not_n not_v not_f not_r =
    simp (ne_eqb letter 98 not_b, ne_eqb letter 116 not_t, ne_eqb letter 110 not_n, ne_eqb letter 118 not_v, ne_eqb letter 102 not_f, ne_eqb letter 114 not_r)

-- neither delimiter is a line feed
apart : (delimiter : ℕ) → IsDelimiter delimiter → delimiter ≢ 10
apart delimiter (inl is) same = omega arith
apart delimiter (inr is) same = omega arith

-- a line of one field, and one of more
one : (delimiter : ℕ) (field : Option (List ℕ)) → line_text delimiter (field ∷ []) ++ 10 ∷ [] ≡ field_text delimiter field ++ 10 ∷ []
one delimiter field = ap (λ (t : List ℕ). t ++ 10 ∷ []) (append-nil (field_text delimiter field))

several : (delimiter : ℕ) (field next : Option (List ℕ)) (more : List (Option (List ℕ))) → line_text delimiter (field ∷ next ∷ more) ++ 10 ∷ [] ≡ field_text delimiter field ++ delimiter ∷ (line_text delimiter (next ∷ more) ++ 10 ∷ [])
several delimiter field next more = append_assoc (field_text delimiter field) (delimiter ∷ line_text delimiter (next ∷ more)) (10 ∷ [])

-- a line body with its line feed: its first field, the byte that ends it, and what is after that
record Opens (delimiter : ℕ) (field : Option (List ℕ)) (fields : List (Option (List ℕ))) : Type 0 where
  end : ℕ
  rest : List ℕ
  ends : EndsField delimiter end
  last : end ≡ 10 → rest ≡ []
  is : line_text delimiter (field ∷ fields) ++ 10 ∷ [] ≡ field_text delimiter field ++ end ∷ rest

opens : (delimiter : ℕ) → IsDelimiter delimiter → (field : Option (List ℕ)) (fields : List (Option (List ℕ))) → Opens delimiter field fields
opens delimiter delimits field [] = record {
  end = 10;
  rest = [];
  ends = inr refl;
  last = λ _. refl;
  is = one delimiter field;
}
opens delimiter delimits field (next ∷ more) = record {
  end = delimiter;
  rest = line_text delimiter (next ∷ more) ++ 10 ∷ [];
  ends = inl refl;
  last = λ same. absurd (apart delimiter delimits same);
  is = several delimiter field next more;
}

-- no two lines are written alike
pub line_text-same : (delimiter : ℕ) → IsDelimiter delimiter → (field other : Option (List ℕ)) (fields others : List (Option (List ℕ))) → line_text delimiter (field ∷ fields) ++ 10 ∷ [] ≡ line_text delimiter (other ∷ others) ++ 10 ∷ [] → field ∷ fields ≡ other ∷ others
line_text-same delimiter delimits field other [] [] same =
    let both = field_text-same delimiter 10 10 field other [] [] delimits (inr refl) (inr refl)
    (sym (one delimiter field) ∙ same ∙ one delimiter other) in
    ap (λ (f : Option (List ℕ)). f ∷ []) both.0
line_text-same delimiter delimits field other [] (next ∷ more) same =
    let both = field_text-same delimiter 10 delimiter field other [] (line_text delimiter (next ∷ more) ++ 10 ∷ []) delimits (inr refl) (inl refl)
    (sym (one delimiter field) ∙ same ∙ several delimiter other next more) in
    absurd (apart delimiter delimits (sym both.1))
line_text-same delimiter delimits field other (next ∷ more) [] same =
    let both = field_text-same delimiter delimiter 10 field other (line_text delimiter (next ∷ more) ++ 10 ∷ []) [] delimits (inl refl) (inr refl)
    (sym (several delimiter field next more) ∙ same ∙ one delimiter other) in
    absurd (apart delimiter delimits both.1)
line_text-same delimiter delimits field other (next ∷ more) (another ∷ others) same =
    let both = field_text-same delimiter delimiter delimiter field other (line_text delimiter (next ∷ more) ++ 10 ∷ []) (line_text delimiter (another ∷ others) ++ 10 ∷ []) delimits (inl refl) (inl refl)
    (sym (several delimiter field next more) ∙ same ∙ several delimiter other another others) in
    let first : field ≡ other = both.0 in
    let behind : next ∷ more ≡ another ∷ others = line_text-same delimiter delimits next another more others both.2 in
    cc

pub IsLineBody-same : (delimiter : ℕ) → IsDelimiter delimiter → (fields others : List (Option (List ℕ))) (bytes : List ℕ) → IsLineBody delimiter fields bytes → IsLineBody delimiter others bytes → fields ≡ others
IsLineBody-same delimiter delimits [] others bytes body other_body = absurd (omega (arith, body.some))
IsLineBody-same delimiter delimits (field ∷ fields) [] bytes body other_body = absurd (omega (arith, other_body.some))
IsLineBody-same delimiter delimits (field ∷ fields) (other ∷ others) bytes body other_body =
    line_text-same delimiter delimits field other fields others (ap (λ (t : List ℕ). t ++ 10 ∷ []) (sym body.written ∙ other_body.written))

-- fields that are read whole, and what is read after them
fields_before-cons : (delimiter : ℕ) (field : Option (List ℕ)) (fields : List (Option (List ℕ))) (xs : List ℕ) → fields_before delimiter (field ∷ fields) ++ xs ≡ field_text delimiter field ++ delimiter ∷ (fields_before delimiter fields ++ xs)
fields_before-cons delimiter field fields xs =
    append_assoc (field_text delimiter field ++ delimiter ∷ []) (fields_before delimiter fields) xs
    ∙ append_assoc (field_text delimiter field) (delimiter ∷ []) (fields_before delimiter fields ++ xs)

-- with a last field they are a line body
pub whole : (delimiter : ℕ) (fields : List (Option (List ℕ))) (field : Option (List ℕ)) → fields_before delimiter fields ++ field_text delimiter field ≡ line_text delimiter (fields ++ field ∷ [])
whole delimiter [] field = sym (append-nil (field_text delimiter field))
whole delimiter (first ∷ []) field = fields_before-cons delimiter first [] (field_text delimiter field) ∙ ap (λ (t : List ℕ). field_text delimiter first ++ delimiter ∷ t) (whole delimiter [] field)
whole delimiter (first ∷ next ∷ more) field = fields_before-cons delimiter first (next ∷ more) (field_text delimiter field) ∙ ap (λ (t : List ℕ). field_text delimiter first ++ delimiter ∷ t) (whole delimiter (next ∷ more) field)

pub whole-body : (delimiter : ℕ) (fields : List (Option (List ℕ))) (field : Option (List ℕ)) (bytes : List ℕ) → fields_before delimiter fields ++ field_text delimiter field ≡ bytes → IsLineBody delimiter (fields ++ field ∷ []) bytes
whole-body delimiter fields field bytes is = record {
  some = omega (arith, length-append fields (field ∷ []));
  written = sym is ∙ whole delimiter fields field;
}

-- one more of them
pub fields_before-push : (delimiter : ℕ) (fields : List (Option (List ℕ))) (field : Option (List ℕ)) → fields_before delimiter (fields ++ field ∷ []) ≡ (fields_before delimiter fields ++ field_text delimiter field) ++ delimiter ∷ []
fields_before-push delimiter fields field =
    flat_map-append (λ (f : Option (List ℕ)). field_text delimiter f ++ delimiter ∷ []) fields (field ∷ [])
    ∙ ap (λ (t : List ℕ). fields_before delimiter fields ++ t) (append-nil (field_text delimiter field ++ delimiter ∷ []))
    ∙ sym (append_assoc (fields_before delimiter fields) (field_text delimiter field) (delimiter ∷ []))

-- what is after them in a line is a line
cut : (delimiter : ℕ) → IsDelimiter delimiter → (before : List (Option (List ℕ))) (xs : List ℕ) (field : Option (List ℕ)) (fields : List (Option (List ℕ))) → fields_before delimiter before ++ xs ≡ line_text delimiter (field ∷ fields) ++ 10 ∷ [] → (other : Option (List ℕ)) × (others : List (Option (List ℕ))) × (xs ≡ line_text delimiter (other ∷ others) ++ 10 ∷ [])
cut delimiter delimits [] xs field fields is = (field, fields, is)
cut delimiter delimits (first ∷ before) xs field [] is =
    let both = field_text-same delimiter delimiter 10 first field (fields_before delimiter before ++ xs) [] delimits (inl refl) (inr refl)
    (sym (fields_before-cons delimiter first before xs) ∙ is ∙ one delimiter field) in
    absurd (apart delimiter delimits both.1)
cut delimiter delimits (first ∷ before) xs field (next ∷ more) is =
    let both = field_text-same delimiter delimiter delimiter first field (fields_before delimiter before ++ xs) (line_text delimiter (next ∷ more) ++ 10 ∷ []) delimits (inl refl) (inl refl)
    (sym (fields_before-cons delimiter first before xs) ∙ is ∙ several delimiter field next more) in
    cut delimiter delimits before xs next more both.2

-- after a text, a field goes on: with the null field if the text is empty, or with a text
behind_text : (delimiter end : ℕ) → IsEnd delimiter end → (text xs rest : List ℕ) (field : Option (List ℕ)) → escaped_text delimiter text ++ xs ≡ field_text delimiter field ++ end ∷ rest → ((text ≡ []) × (xs ≡ 92 ∷ 78 ∷ end ∷ rest)) ⊎ ((more : List ℕ) × (xs ≡ escaped_text delimiter more ++ end ∷ rest))
behind_text delimiter end ends [] xs rest None is = inl (refl, is)
behind_text delimiter end ends (x ∷ text) xs rest None is =
    let split : escaped delimiter x ++ (escaped_text delimiter text ++ xs) ≡ 92 ∷ 78 ∷ end ∷ rest = sym (append_assoc (escaped delimiter x) (escaped_text delimiter text) xs) ∙ is in
    elim (form delimiter x) [
      | itself written _ _ no_backslash _ _ ↦
          let heads : x ∷ (escaped_text delimiter text ++ xs) ≡ 92 ∷ 78 ∷ end ∷ rest = sym (ap (λ (t : List ℕ). t ++ (escaped_text delimiter text ++ xs)) written) ∙ split in
          let same : x ≡ 92 = cc in
          absurd (no_backslash same)
      | escape letter written _ _ _ no_n _ ↦
          let heads : 92 ∷ letter ∷ (escaped_text delimiter text ++ xs) ≡ 92 ∷ 78 ∷ end ∷ rest = sym (ap (λ (t : List ℕ). t ++ (escaped_text delimiter text ++ xs)) written) ∙ split in
          let same : letter ≡ 78 = cc in
          absurd (no_n same)
    ]
behind_text delimiter end ends [] xs rest (Some ys) is = inr (ys, is)
behind_text delimiter end ends (x ∷ text) xs rest (Some []) is =
    absurd (ends.begins_none x (escaped_text delimiter text ++ xs) rest (sym (append_assoc (escaped delimiter x) (escaped_text delimiter text) xs) ∙ is))
behind_text delimiter end ends (x ∷ text) xs rest (Some (y ∷ ys)) is =
    let both = escaped-same delimiter x y (escaped_text delimiter text ++ xs) (escaped_text delimiter ys ++ end ∷ rest)
    (sym (append_assoc (escaped delimiter x) (escaped_text delimiter text) xs) ∙ is ∙ append_assoc (escaped delimiter y) (escaped_text delimiter ys) (end ∷ rest)) in
    elim (behind_text delimiter end ends text xs rest (Some ys) both.1) [
      | inl null ↦ absurd (null-apart delimiter end ends ys rest (end ∷ rest) (sym both.1 ∙ ap (λ (t : List ℕ). escaped_text delimiter t ++ xs) null.0 ∙ null.1))
      | inr more ↦ inr more
    ]

-- a byte that has an escape, and isn't a backslash, begins nothing that is written for a byte
begins_none : (delimiter byte letter : ℕ) → escaped delimiter byte ≡ 92 ∷ letter ∷ [] → byte ≢ 92 → (x : ℕ) (xs rest : List ℕ) → escaped delimiter x ++ xs ≢ byte ∷ rest
begins_none delimiter byte letter special no_backslash x xs rest is =
    elim (form delimiter x) [
      | itself written _ _ _ _ _ ↦
          let heads : x ∷ xs ≡ byte ∷ rest = sym (ap (λ (t : List ℕ). t ++ xs) written) ∙ is in
          let same : x ≡ byte = cc in
          let lists : 92 ∷ letter ∷ [] ≡ x ∷ [] = sym special ∙ ap (escaped delimiter) (sym same) ∙ written in
          cc
      | escape other written _ _ _ _ _ ↦
          let heads : 92 ∷ other ∷ xs ≡ byte ∷ rest = sym (ap (λ (t : List ℕ). t ++ xs) written) ∙ is in
          let same : byte ≡ 92 = cc in
          no_backslash same
    ]

-- a byte after which the line goes on, and that isn't the delimiter, doesn't end a field
ends_none : (delimiter byte end : ℕ) (more rest : List ℕ) → EndsField delimiter end → (end ≡ 10 → rest ≡ []) → byte ≢ delimiter → byte ∷ (more ++ 10 ∷ []) ≢ end ∷ rest
ends_none delimiter byte end more rest (inl is) last other same =
    let heads : byte ≡ end = cc in
    other (heads ∙ is)
ends_none delimiter byte end more rest (inr is) last other same =
    let none : more ++ 10 ∷ [] ≡ [] = let tails : more ++ 10 ∷ [] ≡ rest = cc in tails ∙ last is in
    omega (arith, ap length none, length-append more (10 ∷ []))

-- no text goes on with such a byte
text_ends_none : (delimiter byte letter end : ℕ) → escaped delimiter byte ≡ 92 ∷ letter ∷ [] → byte ≢ 92 → byte ≢ delimiter → EndsField delimiter end → (more rest ys : List ℕ) → (end ≡ 10 → rest ≡ []) → byte ∷ (more ++ 10 ∷ []) ≢ escaped_text delimiter ys ++ end ∷ rest
text_ends_none delimiter byte letter end special no_backslash other ends more rest [] last is = ends_none delimiter byte end more rest ends last other is
text_ends_none delimiter byte letter end special no_backslash other ends more rest (y ∷ ys) last is =
    begins_none delimiter byte letter special no_backslash y (escaped_text delimiter ys ++ end ∷ rest) (more ++ 10 ∷ [])
    (sym (is ∙ append_assoc (escaped delimiter y) (escaped_text delimiter ys) (end ∷ rest)))

-- no text goes on with a backslash and a byte that is no letter
letter_none : (delimiter letter end : ℕ) → IsEnd delimiter end → ((byte : ℕ) → escaped delimiter byte ≢ 92 ∷ letter ∷ []) → (more rest ys : List ℕ) → 92 ∷ letter ∷ more ≢ escaped_text delimiter ys ++ end ∷ rest
letter_none delimiter letter end ends none more rest [] is =
    let same : end ≡ 92 = cc in
    ends.no_backslash same
letter_none delimiter letter end ends none more rest (y ∷ ys) is =
    let behind : List ℕ = escaped_text delimiter ys ++ end ∷ rest in
    let split : 92 ∷ letter ∷ more ≡ escaped delimiter y ++ behind = is ∙ append_assoc (escaped delimiter y) (escaped_text delimiter ys) (end ∷ rest) in
    elim (form delimiter y) [
      | itself written _ _ no_backslash _ _ ↦
          let heads : 92 ∷ letter ∷ more ≡ y ∷ behind = split ∙ ap (λ (t : List ℕ). t ++ behind) written in
          let same : y ≡ 92 = cc in
          no_backslash same
      | escape other written _ _ _ _ _ ↦
          let heads : 92 ∷ letter ∷ more ≡ 92 ∷ other ∷ behind = split ∙ ap (λ (t : List ℕ). t ++ behind) written in
          let same : other ≡ letter = cc in
          none y (written ∙ ap (λ (l : ℕ). 92 ∷ l ∷ []) same)
    ]

-- after fields that are read whole
abbrev GoesOn : ℕ → List (Option (List ℕ)) → List ℕ → Type 0
GoesOn delimiter before xs = (field : Option (List ℕ)) × (fields : List (Option (List ℕ))) × (fields_before delimiter before ++ xs ≡ line_text delimiter (field ∷ fields) ++ 10 ∷ [])

pub text_stuck : (delimiter byte letter : ℕ) → IsDelimiter delimiter → escaped delimiter byte ≡ 92 ∷ letter ∷ [] → byte ≢ 92 → byte ≢ delimiter → (before : List (Option (List ℕ))) (text more : List ℕ) → ¬ GoesOn delimiter before (escaped_text delimiter text ++ byte ∷ (more ++ 10 ∷ []))
text_stuck delimiter byte letter delimits special no_backslash other before text more on =
    let rest = cut delimiter delimits before (escaped_text delimiter text ++ byte ∷ (more ++ 10 ∷ [])) on.0 on.1 on.2 in
    let first = opens delimiter delimits rest.0 rest.1 in
    let ends = ends-apart delimiter first.end delimits first.ends in
    elim (behind_text delimiter first.end ends text (byte ∷ (more ++ 10 ∷ [])) first.rest rest.0 (rest.2 ∙ first.is)) [
      | inl null ↦
          let heads : byte ∷ (more ++ 10 ∷ []) ≡ 92 ∷ 78 ∷ first.end ∷ first.rest = null.1 in
          let same : byte ≡ 92 = cc in
          no_backslash same
      | inr behind ↦ text_ends_none delimiter byte letter first.end special no_backslash other first.ends more first.rest behind.0 first.last behind.1
    ]

pub letter_stuck : (delimiter letter : ℕ) → IsDelimiter delimiter → ((byte : ℕ) → escaped delimiter byte ≢ 92 ∷ letter ∷ []) → (before : List (Option (List ℕ))) (text more : List ℕ) → (text ≡ [] → letter ≢ 78) → ¬ GoesOn delimiter before (escaped_text delimiter text ++ 92 ∷ letter ∷ more)
letter_stuck delimiter letter delimits none before text more no_null on =
    let rest = cut delimiter delimits before (escaped_text delimiter text ++ 92 ∷ letter ∷ more) on.0 on.1 on.2 in
    let first = opens delimiter delimits rest.0 rest.1 in
    let ends = ends-apart delimiter first.end delimits first.ends in
    elim (behind_text delimiter first.end ends text (92 ∷ letter ∷ more) first.rest rest.0 (rest.2 ∙ first.is)) [
      | inl null ↦
          let heads : 92 ∷ letter ∷ more ≡ 92 ∷ 78 ∷ first.end ∷ first.rest = null.1 in
          let same : letter ≡ 78 = cc in
          no_null null.0 same
      | inr behind ↦ letter_none delimiter letter first.end ends none more first.rest behind.0 behind.1
    ]

null_ends : (delimiter byte end : ℕ) → IsEnd delimiter end → EndsField delimiter end → byte ≢ delimiter → (more rest : List ℕ) (field : Option (List ℕ)) → (end ≡ 10 → rest ≡ []) → 92 ∷ 78 ∷ byte ∷ (more ++ 10 ∷ []) ≢ field_text delimiter field ++ end ∷ rest
null_ends delimiter byte end ends ends_field other more rest None last is =
    let behind : byte ∷ (more ++ 10 ∷ []) ≡ end ∷ rest = cc in
    ends_none delimiter byte end more rest ends_field last other behind
null_ends delimiter byte end ends ends_field other more rest (Some ys) last is = null-apart delimiter end ends ys rest (byte ∷ (more ++ 10 ∷ [])) (sym is)

pub null_stuck : (delimiter byte : ℕ) → IsDelimiter delimiter → byte ≢ delimiter → (before : List (Option (List ℕ))) (more : List ℕ) → ¬ GoesOn delimiter before (92 ∷ 78 ∷ byte ∷ (more ++ 10 ∷ []))
null_stuck delimiter byte delimits other before more on =
    let rest = cut delimiter delimits before (92 ∷ 78 ∷ byte ∷ (more ++ 10 ∷ [])) on.0 on.1 on.2 in
    let first = opens delimiter delimits rest.0 rest.1 in
    let ends = ends-apart delimiter first.end delimits first.ends in
    null_ends delimiter byte first.end ends first.ends other more first.rest rest.0 first.last (rest.2 ∙ first.is)

-- what begins a line body goes on
line_of : (delimiter : ℕ) (fields before : List (Option (List ℕ))) (xs more : List ℕ) → IsLineBody delimiter fields ((fields_before delimiter before ++ xs) ++ more) → GoesOn delimiter before (xs ++ (more ++ 10 ∷ []))
line_of delimiter [] before xs more body = absurd (omega (arith, body.some))
line_of delimiter (field ∷ fields) before xs more body = (
  field,
  fields,
  ap (λ (t : List ℕ). fields_before delimiter before ++ t) (sym (append_assoc xs more (10 ∷ [])))
      ∙ sym (append_assoc (fields_before delimiter before) (xs ++ more) (10 ∷ []))
      ∙ ap (λ (t : List ℕ). t ++ 10 ∷ []) (sym (append_assoc (fields_before delimiter before) xs more) ∙ body.written),
)

-- a byte more, with which no line body goes on
pub stuck : (delimiter byte : ℕ) (before : List (Option (List ℕ))) (xs : List ℕ) → ((more : List ℕ) → ¬ GoesOn delimiter before (xs ++ byte ∷ (more ++ 10 ∷ []))) → ¬ BeginsLineBody delimiter ((fields_before delimiter before ++ xs) ++ byte ∷ [])
stuck delimiter byte before xs none begun =
    let joined : (fields_before delimiter before ++ xs) ++ byte ∷ [] ≡ fields_before delimiter before ++ (xs ++ byte ∷ []) = append_assoc (fields_before delimiter before) xs (byte ∷ []) in
    let body : IsLineBody delimiter begun.fields ((fields_before delimiter before ++ (xs ++ byte ∷ [])) ++ begun.more) =
    subst (λ (t : List ℕ). IsLineBody delimiter begun.fields (t ++ begun.more)) joined begun.goes_on in
    let on = line_of delimiter begun.fields before (xs ++ byte ∷ []) begun.more body in
    none begun.more (on.0, on.1, ap (λ (t : List ℕ). fields_before delimiter before ++ t) (sym (append_assoc xs (byte ∷ []) (begun.more ++ 10 ∷ []))) ∙ on.2)

-- a backslash at the end of a line
pub backslash_stuck : (delimiter : ℕ) → IsDelimiter delimiter → ((byte : ℕ) → escaped delimiter byte ≢ 92 ∷ 10 ∷ []) → (fields before : List (Option (List ℕ))) (text : List ℕ) → ¬ IsLineBody delimiter fields (fields_before delimiter before ++ (escaped_text delimiter text ++ 92 ∷ []))
backslash_stuck delimiter delimits none fields before text body =
    let all : List ℕ = fields_before delimiter before ++ (escaped_text delimiter text ++ 92 ∷ []) in
    let on = line_of delimiter fields before (escaped_text delimiter text ++ 92 ∷ []) [] (subst (IsLineBody delimiter fields) (sym (append-nil all)) body) in
    letter_stuck delimiter 10 delimits none before text [] (λ _. omega arith)
    (on.0, on.1, ap (λ (t : List ℕ). fields_before delimiter before ++ t) (sym (append_assoc (escaped_text delimiter text) (92 ∷ []) (10 ∷ []))) ∙ on.2)

-- the prefixes of bytes that begin a line body
begins-prefix : (delimiter : ℕ) (xs ys : List ℕ) → BeginsLineBody delimiter (xs ++ ys) → BeginsLineBody delimiter xs
begins-prefix delimiter xs ys begun = record {
  fields = begun.fields;
  more = ys ++ begun.more;
  goes_on = subst (IsLineBody delimiter begun.fields) (append_assoc xs ys begun.more) begun.goes_on;
}

-- where a byte is the first with which no line body goes on
pub bad_at : (delimiter : ℕ) (line : List ℕ) (at byte : ℕ) → at < length line → byte ≡ get_or line at 0 → BeginsLineBody delimiter (take at line) → ¬ BeginsLineBody delimiter (take at line ++ byte ∷ []) → IsBadAt delimiter line at
bad_at delimiter line at byte below is begins none =
    let more : take (at + 1) line ≡ take at line ++ byte ∷ [] = take_more line at 0 below ∙ ap (λ (b : ℕ). take at line ++ b ∷ []) (sym is) in
    let longer : (size : ℕ) → at < size → ¬ BeginsLineBody delimiter (take size line) = λ size above begun.
    let split : take size line ≡ take (at + 1) line ++ drop (at + 1) (take size line) =
    sym (take-append-drop (at + 1) (take size line)) ∙ ap (λ (t : List ℕ). t ++ drop (at + 1) (take size line)) (take-take (at + 1) size line (omega arith)) in
    none (subst (BeginsLineBody delimiter) more
    (begins-prefix delimiter (take (at + 1) line) (drop (at + 1) (take size line)) (subst (BeginsLineBody delimiter) split begun))) in
    record {
      within = omega arith;
      begins = begins;
      longest = λ size within begun. elim (cases_lt at size) [ inl above ↦ absurd (longer size above begun) | inr up_to ↦ up_to ];
      no_body = λ fields body.
          let all : take (length line) line ++ [] ≡ line = append-nil (take (length line) line) ∙ take_all (length line) line (omega arith) in
          longer (length line) below (record { fields = fields; more = []; goes_on = subst (IsLineBody delimiter fields) (sym all) body });
    }

-- where a line ends too early
pub bad_end : (delimiter : ℕ) (line : List ℕ) → BeginsLineBody delimiter line → ((fields : List (Option (List ℕ))) → ¬ IsLineBody delimiter fields line) → IsBadAt delimiter line (length line)
bad_end delimiter line begins none = record {
  within = omega arith;
  begins = subst (BeginsLineBody delimiter) (sym (take_all (length line) line (omega arith))) begins;
  longest = λ size within _. within;
  no_body = none;
}

escaped-backslash : (delimiter : ℕ) → escaped delimiter 92 ≡ 92 ∷ 92 ∷ []
unfolding escaped
escaped-backslash delimiter = refl

-- what is read begins a line body
pub body-begins : (delimiter : ℕ) (fields : List (Option (List ℕ))) (field : Option (List ℕ)) (bytes : List ℕ) → fields_before delimiter fields ++ field_text delimiter field ≡ bytes → BeginsLineBody delimiter bytes
body-begins delimiter fields field bytes is = record {
  fields = fields ++ field ∷ [];
  more = [];
  goes_on = subst (IsLineBody delimiter (fields ++ field ∷ [])) (sym (append-nil bytes)) (whole-body delimiter fields field bytes is);
}

pub text_so_far-begins : (delimiter : ℕ) (fields : List (Option (List ℕ))) (text : List ℕ) (place : Place) → BeginsLineBody delimiter (fields_before delimiter fields ++ field_so_far delimiter text place)
text_so_far-begins delimiter fields text Text = body-begins delimiter fields (Some text) (fields_before delimiter fields ++ escaped_text delimiter text) refl
text_so_far-begins delimiter fields text Backslash =
    let all : fields_before delimiter fields ++ field_text delimiter (Some (text ++ 92 ∷ [])) ≡ (fields_before delimiter fields ++ (escaped_text delimiter text ++ 92 ∷ [])) ++ 92 ∷ [] =
    ap (λ (t : List ℕ). fields_before delimiter fields ++ t)
    (flat_map-append (escaped delimiter) text (92 ∷ []) ∙ ap (λ (t : List ℕ). escaped_text delimiter text ++ t) (append-nil (escaped delimiter 92) ∙ escaped-backslash delimiter) ∙ sym (append_assoc (escaped_text delimiter text) (92 ∷ []) (92 ∷ [])))
    ∙ sym (append_assoc (fields_before delimiter fields) (escaped_text delimiter text ++ 92 ∷ []) (92 ∷ [])) in
    record {
      fields = fields ++ Some (text ++ 92 ∷ []) ∷ [];
      more = 92 ∷ [];
      goes_on = whole-body delimiter fields (Some (text ++ 92 ∷ [])) ((fields_before delimiter fields ++ (escaped_text delimiter text ++ 92 ∷ [])) ++ 92 ∷ []) all;
    }
text_so_far-begins delimiter fields text Null = body-begins delimiter fields None (fields_before delimiter fields ++ 92 ∷ 78 ∷ []) refl

-- the same with the place as a variable: where a byte is bad
pub text-bad : (delimiter byte letter : ℕ) (fields : List (Option (List ℕ))) (text : List ℕ) (place : Place) → place ≡ Text → IsDelimiter delimiter → escaped delimiter byte ≡ 92 ∷ letter ∷ [] → byte ≢ 92 → byte ≢ delimiter → ¬ BeginsLineBody delimiter ((fields_before delimiter fields ++ field_so_far delimiter text place) ++ byte ∷ [])
text-bad delimiter byte letter fields text place is delimits special no_backslash other =
    subst (λ (p : Place). ¬ BeginsLineBody delimiter ((fields_before delimiter fields ++ field_so_far delimiter text p) ++ byte ∷ [])) (sym is)
    (stuck delimiter byte fields (escaped_text delimiter text) (text_stuck delimiter byte letter delimits special no_backslash other fields text))

pub letter-bad : (delimiter letter : ℕ) (fields : List (Option (List ℕ))) (text : List ℕ) (place : Place) → place ≡ Backslash → IsDelimiter delimiter → ((byte : ℕ) → escaped delimiter byte ≢ 92 ∷ letter ∷ []) → (text ≡ [] → letter ≢ 78) → ¬ BeginsLineBody delimiter ((fields_before delimiter fields ++ field_so_far delimiter text place) ++ letter ∷ [])
letter-bad delimiter letter fields text place is delimits none no_null =
    subst (λ (p : Place). ¬ BeginsLineBody delimiter ((fields_before delimiter fields ++ field_so_far delimiter text p) ++ letter ∷ [])) (sym is)
    (stuck delimiter letter fields (escaped_text delimiter text ++ 92 ∷ [])
    (λ more on. letter_stuck delimiter letter delimits none fields text (more ++ 10 ∷ []) no_null
    (on.0, on.1, ap (λ (t : List ℕ). fields_before delimiter fields ++ t) (sym (append_assoc (escaped_text delimiter text) (92 ∷ []) (letter ∷ (more ++ 10 ∷ [])))) ∙ on.2)))

pub null-bad : (delimiter byte : ℕ) (fields : List (Option (List ℕ))) (text : List ℕ) (place : Place) → place ≡ Null → IsDelimiter delimiter → byte ≢ delimiter → ¬ BeginsLineBody delimiter ((fields_before delimiter fields ++ field_so_far delimiter text place) ++ byte ∷ [])
null-bad delimiter byte fields text place is delimits other =
    subst (λ (p : Place). ¬ BeginsLineBody delimiter ((fields_before delimiter fields ++ field_so_far delimiter text p) ++ byte ∷ [])) (sym is)
    (stuck delimiter byte fields (92 ∷ 78 ∷ []) (null_stuck delimiter byte delimits other fields))

-- a line feed is no letter
line_feed-no_letter : (delimiter byte : ℕ) → escaped delimiter byte ≢ 92 ∷ 10 ∷ []
line_feed-no_letter delimiter byte is =
    elim (form delimiter byte) [
      | itself written _ _ _ _ _ ↦
          let lists : 92 ∷ 10 ∷ [] ≡ byte ∷ [] = sym is ∙ written in
          cc
      | escape other written _ _ no_line_feed _ _ ↦
          let lists : 92 ∷ 10 ∷ [] ≡ 92 ∷ other ∷ [] = sym is ∙ written in
          let same : other ≡ 10 = cc in
          no_line_feed same
    ]

-- a line that is read whole: by what stands at its end
pub backslash-bad : (delimiter : ℕ) (fields : List (Option (List ℕ))) (text : List ℕ) (place : Place) (line : List ℕ) → place ≡ Backslash → IsDelimiter delimiter → fields_before delimiter fields ++ field_so_far delimiter text place ≡ line → IsBadAt delimiter line (length line)
backslash-bad delimiter fields text place line is delimits all =
    let bytes : fields_before delimiter fields ++ (escaped_text delimiter text ++ 92 ∷ []) ≡ line =
    ap (λ (p : Place). fields_before delimiter fields ++ field_so_far delimiter text p) (sym is) ∙ all in
    bad_end delimiter line (subst (BeginsLineBody delimiter) all (text_so_far-begins delimiter fields text place))
    (λ others body. backslash_stuck delimiter delimits (line_feed-no_letter delimiter) others fields text (subst (IsLineBody delimiter others) (sym bytes) body))

pub text-ends : (delimiter : ℕ) (fields now : List (Option (List ℕ))) (text : List ℕ) (place : Place) (line : List ℕ) → place ≡ Text → fields_before delimiter fields ++ field_so_far delimiter text place ≡ line → now ≡ fields ++ Some text ∷ [] → IsLineBody delimiter now line
text-ends delimiter fields now text place line is all pushed =
    subst (λ (fs : List (Option (List ℕ))). IsLineBody delimiter fs line) (sym pushed)
    (whole-body delimiter fields (Some text) line (ap (λ (p : Place). fields_before delimiter fields ++ field_so_far delimiter text p) (sym is) ∙ all))

pub null-ends : (delimiter : ℕ) (fields now : List (Option (List ℕ))) (text : List ℕ) (place : Place) (line : List ℕ) → place ≡ Null → fields_before delimiter fields ++ field_so_far delimiter text place ≡ line → now ≡ fields ++ None ∷ [] → IsLineBody delimiter now line
null-ends delimiter fields now text place line is all pushed =
    subst (λ (fs : List (Option (List ℕ))). IsLineBody delimiter fs line) (sym pushed)
    (whole-body delimiter fields None line (ap (λ (p : Place). fields_before delimiter fields ++ field_so_far delimiter text p) (sym is) ∙ all))

pub some_of : (r : Option ℕ) (P : ℕ → Type 0) → IfSome r P → is_some r ≡ true → (x : ℕ) × P x
some_of None P holds is = absurd (false≢true is)
some_of (Some x) P holds is = (x, holds)

pub on_false : (b : Bool) (P : Type 0) → OnFalse b P → b ≡ false → P
on_false false P holds is = holds
on_false true P holds is = absurd (false≢true (sym is))

-- a line body holds no line feed
further-line_feed : (delimiter : ℕ) → IsDelimiter delimiter → (fields : List (Option (List ℕ))) → ¬ Contains (flat_map (λ (field : Option (List ℕ)). (delimiter ∷ []) ++ field_text delimiter field) fields) 10
further-line_feed delimiter delimits [] found = grind (arith, found)
further-line_feed delimiter delimits (field ∷ fields) found =
    elim (Contains-append_cases (delimiter ∷ field_text delimiter field) (flat_map (λ (f : Option (List ℕ)). (delimiter ∷ []) ++ field_text delimiter f) fields) 10 found) [
      | inl here ↦ elim (Contains-append_cases (delimiter ∷ []) (field_text delimiter field) 10 here) [
        | inl between ↦ let other : delimiter ≢ 10 = apart delimiter delimits in grind (arith, between)
        | inr within ↦ field_text-line_feed delimiter field within
      ]
      | inr later ↦ further-line_feed delimiter delimits fields later
    ]

line_text-line_feed : (delimiter : ℕ) → IsDelimiter delimiter → (fields : List (Option (List ℕ))) → ¬ Contains (line_text delimiter fields) 10
line_text-line_feed delimiter delimits [] found = grind (arith, found)
line_text-line_feed delimiter delimits (field ∷ fields) found =
    elim (Contains-append_cases (field_text delimiter field) (flat_map (λ (f : Option (List ℕ)). (delimiter ∷ []) ++ field_text delimiter f) fields) 10 found) [
      | inl first ↦ field_text-line_feed delimiter field first
      | inr later ↦ further-line_feed delimiter delimits fields later
    ]

pub IsLineBody-line_feed : (delimiter : ℕ) → IsDelimiter delimiter → (fields : List (Option (List ℕ))) (bytes : List ℕ) → IsLineBody delimiter fields bytes → ¬ Contains bytes 10
IsLineBody-line_feed delimiter delimits fields bytes body found = line_text-line_feed delimiter delimits fields (subst (λ (xs : List ℕ). Contains xs 10) body.written found)
