-- Fields as they are written, read back.
use Rattle.std.proofs.Common.{◌≡◌, ◌≢◌, ◌<◌, ◌≤◌, ◌⊎◌, ℕ, suc, ◌+◌, ◌==◌, ◌&&◌, Bool, true, false, not, if◌then◌else◌, List, [], ◌∷◌, ◌++◌, Option, Some, None, codes, drop, get_or, length, take, append_assoc, append-nil, flat_map, inl, inr, refl, ap, ap₂, sym, subst, ◌∙◌, arith}
use Rattle.std.proofs.Math.Seq.{drop-cons}
use Rattle.std.proofs.lemmas.Bool.{and_left, and_right, cases_Bool, eq-eqb, ne_eqb}
use Rattle.std.proofs.lemmas.List.{drop_all, get_or-drop, get_or-take, length-drop, length-take}
use Rattle.row_text.specs.Fields.{EndsField, IsDelimiter, escaped, escaped_text, field_text}
use Rattle.row_text.proofs.EscapeLemmas.{escape, form, itself}
use Rattle.sql_lines.specs.Literals.{literal, literal_text, quoted, text_byte}
use Rattle.sql_lines.specs.Reading.{IsPlain, behind_from, byte_of, field_before, field_behind, field_from, field_read, is_null, text_from}

-- ---- where a field ends

-- a byte more that doesn't end it
pub field-more : (slash : Bool) (stop byte : ℕ) (bytes : List ℕ) → (byte == stop && not slash) ≡ false →
    field_from slash stop (byte ∷ bytes) ≡ byte ∷ field_from (byte == 92 && not slash) stop bytes
field-more slash stop byte bytes goes_on = rw goes_on refl

-- the one that does
pub field-ends : (slash : Bool) (stop byte : ℕ) (bytes : List ℕ) → (byte == stop && not slash) ≡ true → field_from slash stop (byte ∷ bytes) ≡ []
field-ends slash stop byte bytes ends = rw ends refl

behind-more : (slash : Bool) (stop byte : ℕ) (bytes : List ℕ) → (byte == stop && not slash) ≡ false →
    behind_from slash stop (byte ∷ bytes) ≡ behind_from (byte == 92 && not slash) stop bytes
behind-more slash stop byte bytes goes_on = rw goes_on refl

behind-ends : (slash : Bool) (stop byte : ℕ) (bytes : List ℕ) → (byte == stop && not slash) ≡ true → behind_from slash stop (byte ∷ bytes) ≡ bytes
behind-ends slash stop byte bytes ends = rw ends refl

-- at an index of some lines
pub field-next : (slash : Bool) (stop : ℕ) (lines : List ℕ) (i : ℕ) → i < length lines → (get_or lines i 0 == stop && not slash) ≡ false →
    length (field_from slash stop (drop i lines)) ≡ 1 + length (field_from (get_or lines i 0 == 92 && not slash) stop (drop (i + 1) lines))
field-next slash stop lines i below goes_on =
    let next : i + 1 ≡ suc i = omega arith in
    let all : length (field_from slash stop (drop i lines)) ≡ suc (length (field_from (get_or lines i 0 == 92 && not slash) stop (drop (suc i) lines))) =
    ap (λ (bytes : List ℕ). length (field_from slash stop bytes)) (drop-cons lines i 0 below)
    ∙ ap (λ (bytes : List ℕ). length bytes) (field-more slash stop (get_or lines i 0) (drop (suc i) lines) goes_on) in
    omega (arith, all, ap (λ (n : ℕ). length (field_from (get_or lines i 0 == 92 && not slash) stop (drop n lines))) next)

pub field-here : (slash : Bool) (stop : ℕ) (lines : List ℕ) (i : ℕ) → i < length lines → (get_or lines i 0 == stop && not slash) ≡ true →
    length (field_from slash stop (drop i lines)) ≡ 0
field-here slash stop lines i below ends =
    ap (λ (bytes : List ℕ). length (field_from slash stop bytes)) (drop-cons lines i 0 below)
    ∙ ap (λ (bytes : List ℕ). length bytes) (field-ends slash stop (get_or lines i 0) (drop (suc i) lines) ends)

pub field-last : (slash : Bool) (stop : ℕ) (lines : List ℕ) (i : ℕ) → length lines ≤ i → length (field_from slash stop (drop i lines)) ≡ 0
field-last slash stop lines i past = ap (λ (bytes : List ℕ). length (field_from slash stop bytes)) (drop_all i lines past)

-- the field as a part of the lines, and what is after it
pub field-part : (slash : Bool) (stop : ℕ) (bytes : List ℕ) → take (length (field_from slash stop bytes)) bytes ≡ field_from slash stop bytes
field-part slash stop [] = refl
field-part slash stop (byte ∷ bytes) = elim (cases_Bool (byte == stop && not slash)) [
  | inl ends ↦ rw ends refl
  | inr goes_on ↦ rw goes_on (ap (λ (rest : List ℕ). byte ∷ rest) (field-part (byte == 92 && not slash) stop bytes))
]

pub behind-part : (slash : Bool) (stop : ℕ) (bytes : List ℕ) → drop (length (field_from slash stop bytes) + 1) bytes ≡ behind_from slash stop bytes
behind-part slash stop [] = drop_all (0 + 1) [] (omega arith)
behind-part slash stop (byte ∷ bytes) = elim (cases_Bool (byte == stop && not slash)) [
  | inl ends ↦ rw ends refl
  | inr goes_on ↦
      let more : suc (length (field_from (byte == 92 && not slash) stop bytes)) + 1 ≡ suc (length (field_from (byte == 92 && not slash) stop bytes) + 1) = omega arith in
      rw goes_on (ap (λ (n : ℕ). drop n (byte ∷ bytes)) more ∙ behind-part (byte == 92 && not slash) stop bytes)
]

-- ---- a field that is written

-- a byte that doesn't end a field where none is escaped
apart : (byte stop : ℕ) (slash : Bool) → byte ≢ stop → (byte == stop && not slash) ≡ false
apart byte stop slash other = and_left (byte == stop) (not slash) (ne_eqb byte stop other)

escaping : (byte : ℕ) → byte ≡ 92 → (byte == 92 && not false) ≡ true
escaping byte is = rw (eq-eqb byte 92 is) refl

escaped_byte : (byte other : ℕ) → (byte == other && not true) ≡ false
escaped_byte byte other = and_right (byte == other) (not true) refl

module _ (delimiter stop : ℕ) (delimits : IsDelimiter delimiter) (ends : EndsField delimiter stop) where
  no_backslash : 92 ≢ stop
  no_backslash = by delimits ends
    where
      by : IsDelimiter delimiter → EndsField delimiter stop → 92 ≢ stop
      by (inl tab) (inl here) = λ same. omega (arith, tab, here, same)
      by (inr bar) (inl here) = λ same. omega (arith, bar, here, same)
      by kind (inr line) = λ same. omega (arith, line, same)

  -- a byte that stands for itself is neither
  no_end : (byte : ℕ) → byte ≢ 9 → byte ≢ 10 → (delimiter ≡ 124 → byte ≢ 124) → byte ≢ stop
  no_end byte no_tab no_line no_bar = by delimits ends
    where
      by : IsDelimiter delimiter → EndsField delimiter stop → byte ≢ stop
      by (inl tab) (inl here) = λ same. no_tab (omega (arith, tab, here, same))
      by (inr bar) (inl here) = λ same. no_bar bar (omega (arith, bar, here, same))
      by kind (inr line) = λ same. no_line (omega (arith, line, same))

  -- an escape is passed over
  passed : (letter : ℕ) (bytes : List ℕ) → field_from false stop (92 ∷ letter ∷ bytes) ≡ 92 ∷ letter ∷ field_from false stop bytes
  passed letter bytes =
      field-more false stop 92 (letter ∷ bytes) (apart 92 stop false no_backslash)
      ∙ ap (λ (rest : List ℕ). 92 ∷ rest) (field-more true stop letter bytes (escaped_byte letter stop) ∙ ap (λ (e : Bool). letter ∷ field_from e stop bytes) (escaped_byte letter 92))

  passed_behind : (letter : ℕ) (bytes : List ℕ) → behind_from false stop (92 ∷ letter ∷ bytes) ≡ behind_from false stop bytes
  passed_behind letter bytes =
      behind-more false stop 92 (letter ∷ bytes) (apart 92 stop false no_backslash)
      ∙ behind-more true stop letter bytes (escaped_byte letter stop)
      ∙ ap (λ (e : Bool). behind_from e stop bytes) (escaped_byte letter 92)

  text-whole : (text more : List ℕ) → field_from false stop (escaped_text delimiter text ++ stop ∷ more) ≡ escaped_text delimiter text
  text-whole [] more = field-ends false stop stop more (rw (eq-eqb stop stop refl) refl)
  text-whole (byte ∷ text) more =
      let rest : List ℕ = escaped_text delimiter text ++ stop ∷ more in
      ap (field_from false stop) (append_assoc (escaped delimiter byte) (escaped_text delimiter text) (stop ∷ more))
      ∙ elim (form delimiter byte) [
        | itself written no_tab no_line no_escape no_bar _ ↦
            ap (λ (bytes : List ℕ). field_from false stop (bytes ++ rest)) written
            ∙ field-more false stop byte rest (apart byte stop false (no_end byte no_tab no_line no_bar))
            ∙ ap (λ (e : Bool). byte ∷ field_from e stop rest) (apart byte 92 false no_escape)
            ∙ ap (λ (bytes : List ℕ). byte ∷ bytes) (text-whole text more)
            ∙ ap (λ (bytes : List ℕ). bytes ++ escaped_text delimiter text) (sym written)
        | escape letter written _ _ _ _ _ ↦
            ap (λ (bytes : List ℕ). field_from false stop (bytes ++ rest)) written
            ∙ passed letter rest
            ∙ ap (λ (bytes : List ℕ). 92 ∷ letter ∷ bytes) (text-whole text more)
            ∙ ap (λ (bytes : List ℕ). bytes ++ escaped_text delimiter text) (sym written)
      ]

  text-behind : (text more : List ℕ) → behind_from false stop (escaped_text delimiter text ++ stop ∷ more) ≡ more
  text-behind [] more = behind-ends false stop stop more (rw (eq-eqb stop stop refl) refl)
  text-behind (byte ∷ text) more =
      let rest : List ℕ = escaped_text delimiter text ++ stop ∷ more in
      ap (behind_from false stop) (append_assoc (escaped delimiter byte) (escaped_text delimiter text) (stop ∷ more))
      ∙ elim (form delimiter byte) [
        | itself written no_tab no_line no_escape no_bar _ ↦
            ap (λ (bytes : List ℕ). behind_from false stop (bytes ++ rest)) written
            ∙ behind-more false stop byte rest (apart byte stop false (no_end byte no_tab no_line no_bar))
            ∙ ap (λ (e : Bool). behind_from e stop rest) (apart byte 92 false no_escape)
            ∙ text-behind text more
        | escape letter written _ _ _ _ _ ↦
            ap (λ (bytes : List ℕ). behind_from false stop (bytes ++ rest)) written ∙ passed_behind letter rest ∙ text-behind text more
      ]

  -- a field with a byte after it that ends it
  pub field-whole : (field : Option (List ℕ)) (more : List ℕ) → field_before stop (field_text delimiter field ++ stop ∷ more) ≡ field_text delimiter field
  field-whole None more = passed 78 (stop ∷ more) ∙ ap (λ (bytes : List ℕ). 92 ∷ 78 ∷ bytes) (text-whole [] more)
  field-whole (Some text) more = text-whole text more

  pub field-behind : (field : Option (List ℕ)) (more : List ℕ) → field_behind stop (field_text delimiter field ++ stop ∷ more) ≡ more
  field-behind None more = passed_behind 78 (stop ∷ more) ∙ text-behind [] more
  field-behind (Some text) more = text-behind text more

-- ---- what a field holds

text-byte : (slash : Bool) (byte : ℕ) (bytes : List ℕ) → (byte == 92 && not slash) ≡ false →
    text_from slash (byte ∷ bytes) ≡ (if slash then byte_of byte else byte) ∷ text_from false bytes
text-byte slash byte bytes goes_on = rw goes_on refl

text-escape : (byte : ℕ) (bytes : List ℕ) → byte ≡ 92 → text_from false (byte ∷ bytes) ≡ text_from true bytes
text-escape byte bytes is = rw (escaping byte is) refl

pub text-back : (delimiter : ℕ) (text : List ℕ) → text_from false (escaped_text delimiter text) ≡ text
text-back delimiter [] = refl
text-back delimiter (byte ∷ text) =
    let rest : List ℕ = escaped_text delimiter text in
    elim (form delimiter byte) [
      | itself written _ _ no_escape _ _ ↦
          ap (λ (bytes : List ℕ). text_from false (bytes ++ rest)) written
          ∙ text-byte false byte rest (apart byte 92 false no_escape)
          ∙ ap (λ (bytes : List ℕ). byte ∷ bytes) (text-back delimiter text)
      | escape letter written back _ _ _ _ ↦
          ap (λ (bytes : List ℕ). text_from false (bytes ++ rest)) written
          ∙ text-escape 92 (letter ∷ rest) refl
          ∙ text-byte true letter rest (escaped_byte letter 92)
          ∙ ap₂ (λ (first : ℕ) (bytes : List ℕ). first ∷ bytes) (sym back) (text-back delimiter text)
    ]

null-apart : (first : ℕ) (bytes : List ℕ) → first ≢ 92 → is_null (first ∷ bytes) ≡ false
null-apart first [] other = refl
null-apart first (second ∷ []) other = and_left (first == 92) (second == 78) (ne_eqb first 92 other)
null-apart first (second ∷ third ∷ bytes) other = refl

null-letter : (letter : ℕ) (bytes : List ℕ) → letter ≢ 78 → is_null (92 ∷ letter ∷ bytes) ≡ false
null-letter letter [] other = and_right (92 == 92) (letter == 78) (ne_eqb letter 78 other)
null-letter letter (third ∷ bytes) other = refl

pub text-not_null : (delimiter : ℕ) (text : List ℕ) → is_null (escaped_text delimiter text) ≡ false
text-not_null delimiter [] = refl
text-not_null delimiter (byte ∷ text) =
    let rest : List ℕ = escaped_text delimiter text in
    elim (form delimiter byte) [
      | itself written _ _ no_escape _ _ ↦ ap (λ (bytes : List ℕ). is_null (bytes ++ rest)) written ∙ null-apart byte rest no_escape
      | escape letter written _ _ _ no_n _ ↦ ap (λ (bytes : List ℕ). is_null (bytes ++ rest)) written ∙ null-letter letter rest no_n
    ]

-- a field is read back as it was
pub read-back : (delimiter : ℕ) (field : Option (List ℕ)) → field_read (field_text delimiter field) ≡ field
read-back delimiter None = refl
read-back delimiter (Some text) = rw (text-not_null delimiter text) (ap Some (text-back delimiter text))

-- ---- plain fields

plain-head : (byte : ℕ) (bytes : List ℕ) → IsPlain (byte ∷ bytes) → (byte ≢ 92) × (byte ≢ 39)
plain-head byte bytes plain = plain 0 (omega arith)

plain-tail : (byte : ℕ) (bytes : List ℕ) → IsPlain (byte ∷ bytes) → IsPlain bytes
plain-tail byte bytes plain i below = plain (suc i) (omega (arith, below))

plain-text : (bytes : List ℕ) → IsPlain bytes → text_from false bytes ≡ bytes
plain-text [] plain = refl
plain-text (byte ∷ bytes) plain =
    text-byte false byte bytes (apart byte 92 false (plain-head byte bytes plain).0)
    ∙ ap (λ (rest : List ℕ). byte ∷ rest) (plain-text bytes (plain-tail byte bytes plain))

plain-not_null : (bytes : List ℕ) → IsPlain bytes → is_null bytes ≡ false
plain-not_null [] plain = refl
plain-not_null (byte ∷ bytes) plain = null-apart byte bytes (plain-head byte bytes plain).0

pub quoted-other : (byte : ℕ) → byte ≢ 39 → quoted byte ≡ byte ∷ []
unfolding quoted
quoted-other byte other = rw (ne_eqb byte 39 other) refl

pub quoted-quote : (byte : ℕ) → byte ≡ 39 → quoted byte ≡ 39 ∷ 39 ∷ []
unfolding quoted
quoted-quote byte is = rw (eq-eqb byte 39 is) refl

plain-quoted : (bytes : List ℕ) → IsPlain bytes → flat_map quoted bytes ≡ bytes
plain-quoted [] plain = refl
plain-quoted (byte ∷ bytes) plain =
    ap₂ (λ (first rest : List ℕ). first ++ rest) (quoted-other byte (plain-head byte bytes plain).1) (plain-quoted bytes (plain-tail byte bytes plain))

-- its literal is itself, or stands between quotes
pub plain-read : (bytes : List ℕ) → IsPlain bytes → field_read bytes ≡ Some bytes
plain-read bytes plain = rw (plain-not_null bytes plain) (ap Some (plain-text bytes plain))

pub plain-bare : (bytes : List ℕ) → IsPlain bytes → literal true (field_read bytes) ≡ bytes
plain-bare bytes plain = ap (literal true) (plain-read bytes plain)

pub plain-between : (bytes : List ℕ) → IsPlain bytes → literal false (field_read bytes) ≡ 39 ∷ bytes ++ 39 ∷ []
plain-between bytes plain =
    ap (literal false) (plain-read bytes plain) ∙ ap (λ (text : List ℕ). 39 ∷ text ++ 39 ∷ []) (plain-quoted bytes plain)

-- a part of plain bytes is plain
pub plain-part : (bytes : List ℕ) (at n : ℕ) → IsPlain bytes → IsPlain (take n (drop at bytes))
plain-part bytes at n plain i below =
    let small : i < n = omega (arith, below, length-take n (drop at bytes)) in
    let inside : at + i < length bytes = omega (arith, below, length-take n (drop at bytes), length-drop at bytes) in
    subst (λ (byte : ℕ). (byte ≢ 92) × (byte ≢ 39)) (sym (get_or-take n (drop at bytes) i 0 small ∙ get_or-drop at bytes i 0)) (plain (at + i) inside)

-- ---- literals of texts

pub literal_text-bare : (text : List ℕ) → literal_text true text ≡ text
literal_text-bare [] = refl
literal_text-bare (byte ∷ text) = ap (λ (rest : List ℕ). byte ∷ rest) (literal_text-bare text)

-- of a field that isn't null
pub read-bare : (bytes : List ℕ) → is_null bytes ≡ false → literal true (field_read bytes) ≡ literal_text true (text_from false bytes)
read-bare bytes no_null = rw no_null (sym (literal_text-bare (text_from false bytes)))

pub read-between : (bytes : List ℕ) → is_null bytes ≡ false → literal false (field_read bytes) ≡ 39 ∷ literal_text false (text_from false bytes) ++ 39 ∷ []
read-between bytes no_null = rw no_null refl

pub read-null : (bare : Bool) (bytes : List ℕ) → is_null bytes ≡ true → literal bare (field_read bytes) ≡ codes "NULL"
read-null bare bytes null = rw null refl

-- a byte more of a text, by whether a backslash is read already
pub text-next : (slash bare : Bool) (bytes : List ℕ) (i : ℕ) → i < length bytes → (get_or bytes i 0 == 92 && not slash) ≡ false →
    literal_text bare (text_from slash (drop i bytes))
    ≡ literal_text bare ((if slash then byte_of (get_or bytes i 0) else get_or bytes i 0) ∷ []) ++ literal_text bare (text_from false (drop (i + 1) bytes))
text-next slash bare bytes i below goes_on =
    let next : suc i ≡ i + 1 = omega arith in
    let byte : ℕ = get_or bytes i 0 in
    ap (λ (rest : List ℕ). literal_text bare (text_from slash rest)) (drop-cons bytes i 0 below)
    ∙ ap (literal_text bare) (text-byte slash byte (drop (suc i) bytes) goes_on)
    ∙ ap (λ (n : ℕ). literal_text bare ((if slash then byte_of byte else byte) ∷ text_from false (drop n bytes))) next
    ∙ ap (λ (first : List ℕ). first ++ literal_text bare (text_from false (drop (i + 1) bytes))) (sym (append-nil _))

pub text-escaped : (bytes : List ℕ) (i : ℕ) → i < length bytes → get_or bytes i 0 ≡ 92 → text_from false (drop i bytes) ≡ text_from true (drop (i + 1) bytes)
text-escaped bytes i below is =
    let next : suc i ≡ i + 1 = omega arith in
    ap (text_from false) (drop-cons bytes i 0 below) ∙ text-escape (get_or bytes i 0) (drop (suc i) bytes) is ∙ ap (λ (n : ℕ). text_from true (drop n bytes)) next

-- ---- by where a text stands

pub two-quotes : (bare : Bool) (byte : ℕ) → byte ≡ 39 → bare ≡ false → text_byte bare byte ≡ 39 ∷ 39 ∷ []
two-quotes true byte is between = absurd (let same : true ≡ false = between in cc)
two-quotes false byte is between = quoted-quote byte is

pub bare-itself : (bare : Bool) (byte : ℕ) → bare ≡ true → text_byte bare byte ≡ byte ∷ []
bare-itself true byte is = refl
bare-itself false byte is = absurd (let same : false ≡ true = is in cc)

pub other-itself : (bare : Bool) (byte : ℕ) → byte ≢ 39 → text_byte bare byte ≡ byte ∷ []
other-itself true byte other = refl
other-itself false byte other = quoted-other byte other

pub plain-literal-bare : (bare : Bool) (bytes : List ℕ) → bare ≡ true → IsPlain bytes → literal bare (field_read bytes) ≡ bytes
plain-literal-bare true bytes is plain = plain-bare bytes plain
plain-literal-bare false bytes is plain = absurd (let same : false ≡ true = is in cc)

pub plain-literal-between : (bare : Bool) (bytes : List ℕ) → bare ≡ false → IsPlain bytes → literal bare (field_read bytes) ≡ 39 ∷ bytes ++ 39 ∷ []
plain-literal-between true bytes is plain = absurd (let same : true ≡ false = is in cc)
plain-literal-between false bytes is plain = plain-between bytes plain

pub read-literal-bare : (bare : Bool) (bytes : List ℕ) → bare ≡ true → is_null bytes ≡ false → literal bare (field_read bytes) ≡ literal_text true (text_from false bytes)
read-literal-bare true bytes is no_null = read-bare bytes no_null
read-literal-bare false bytes is no_null = absurd (let same : false ≡ true = is in cc)

pub read-literal-between : (bare : Bool) (bytes : List ℕ) → bare ≡ false → is_null bytes ≡ false →
    literal bare (field_read bytes) ≡ 39 ∷ literal_text false (text_from false bytes) ++ 39 ∷ []
read-literal-between true bytes is no_null = absurd (let same : true ≡ false = is in cc)
read-literal-between false bytes is no_null = read-between bytes no_null

-- ---- the byte that is next

pub goes-on : (slash : Bool) (byte : ℕ) → (byte ≡ 92 × slash ≡ true) ⊎ (byte ≢ 92) → (byte == 92 && not slash) ≡ false
goes-on slash byte (inl both) = and_right (byte == 92) (not slash) (ap not both.1)
goes-on slash byte (inr other) = apart byte 92 slash other
