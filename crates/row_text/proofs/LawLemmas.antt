-- The laws of texts as they are written.
use Rattle.std.proofs.Common.{◌≡◌, ◌≢◌, ℕ, ◌≤◌, ◌*◌, List, [], ◌∷◌, ◌++◌, Option, None, Some, length, codes, refl, ap, sym, subst, ◌∙◌, inl, inr, arith, length-append, append_assoc}
use Rattle.std.specs.List.{Contains}
use Rattle.std.proofs.lemmas.List.Elements.{Contains-append_cases}
use Rattle.row_text.specs.Fields.{IsDelimiter, EndsField, escaped, escaped_text, field_text}
use Rattle.row_text.proofs.EscapeLemmas.{itself, escape, form, byte_of}

length-escaped-le : (delimiter byte : ℕ) → length (escaped delimiter byte) ≤ 2
length-escaped-le delimiter byte =
    elim (form delimiter byte) [
      | itself written _ _ _ _ _ ↦ omega (arith, ap length written)
      | escape letter written _ _ _ _ _ ↦ omega (arith, ap length written)
    ]

pub length-escaped_text-le : (delimiter : ℕ) (bytes : List ℕ) → length (escaped_text delimiter bytes) ≤ 2 * length bytes
length-escaped_text-le delimiter [] = omega arith
length-escaped_text-le delimiter (byte ∷ bytes) =
    omega (
      arith,
      length-append (escaped delimiter byte) (escaped_text delimiter bytes),
      length-escaped-le delimiter byte,
      length-escaped_text-le delimiter bytes,
    )

-- a byte that is in no escape, and doesn't stand for itself, is in no text
lacks : (delimiter byte : ℕ) → ((x : ℕ) → ¬ Contains (escaped delimiter x) byte) → (bytes : List ℕ) → ¬ Contains (escaped_text delimiter bytes) byte
lacks delimiter byte none [] found = omega (arith, found.1)
lacks delimiter byte none (x ∷ bytes) found =
    elim (Contains-append_cases (escaped delimiter x) (escaped_text delimiter bytes) byte found) [
      | inl here ↦ none x here
      | inr later ↦ lacks delimiter byte none bytes later
    ]

-- a line feed and a tab are such bytes
escaped-line_feed : (delimiter x : ℕ) → ¬ Contains (escaped delimiter x) 10
escaped-line_feed delimiter x found =
    elim (form delimiter x) [
      | itself written _ no_line_feed _ _ _ ↦ grind (arith, subst (λ (bytes : List ℕ). Contains bytes 10) written found)
      | escape letter written _ _ no_line_feed _ _ ↦ grind (arith, subst (λ (bytes : List ℕ). Contains bytes 10) written found)
    ]

escaped-tab : (delimiter x : ℕ) → ¬ Contains (escaped delimiter x) 9
escaped-tab delimiter x found =
    elim (form delimiter x) [
      | itself written no_tab _ _ _ _ ↦ grind (arith, subst (λ (bytes : List ℕ). Contains bytes 9) written found)
      | escape letter written _ no_tab _ _ _ ↦ grind (arith, subst (λ (bytes : List ℕ). Contains bytes 9) written found)
    ]

pub field_text-line_feed : (delimiter : ℕ) (field : Option (List ℕ)) → ¬ Contains (field_text delimiter field) 10
field_text-line_feed delimiter None found = grind (arith, found)
field_text-line_feed delimiter (Some bytes) found = lacks delimiter 10 (escaped-line_feed delimiter) bytes found

pub field_text-tab : (delimiter : ℕ) (field : Option (List ℕ)) → ¬ Contains (field_text delimiter field) 9
field_text-tab delimiter None found = grind (arith, found)
field_text-tab delimiter (Some bytes) found = lacks delimiter 9 (escaped-tab delimiter) bytes found

-- what is written for a byte tells the byte, and where what is written for the next begins
pub escaped-same : (delimiter x y : ℕ) (xs ys : List ℕ) → escaped delimiter x ++ xs ≡ escaped delimiter y ++ ys → (x ≡ y) × (xs ≡ ys)
escaped-same delimiter x y xs ys same =
    elim (form delimiter x) [
      | itself written_x _ _ no_backslash_x _ _ ↦ elim (form delimiter y) [
        | itself written_y _ _ _ _ _ ↦
            let heads : x ∷ xs ≡ y ∷ ys = sym (ap (λ (t : List ℕ). t ++ xs) written_x) ∙ same ∙ ap (λ (t : List ℕ). t ++ ys) written_y in
            (cc, cc)
        | escape letter written_y _ _ _ _ _ ↦
            let heads : x ∷ xs ≡ 92 ∷ letter ∷ ys = sym (ap (λ (t : List ℕ). t ++ xs) written_x) ∙ same ∙ ap (λ (t : List ℕ). t ++ ys) written_y in
            let backslash : x ≡ 92 = cc in
            absurd (no_backslash_x backslash)
      ]
      | escape letter written_x back_x _ _ _ _ ↦ elim (form delimiter y) [
        | itself written_y _ _ no_backslash_y _ _ ↦
            let heads : 92 ∷ letter ∷ xs ≡ y ∷ ys = sym (ap (λ (t : List ℕ). t ++ xs) written_x) ∙ same ∙ ap (λ (t : List ℕ). t ++ ys) written_y in
            let backslash : y ≡ 92 = cc in
            absurd (no_backslash_y backslash)
        | escape other written_y back_y _ _ _ _ ↦
            let heads : 92 ∷ letter ∷ xs ≡ 92 ∷ other ∷ ys = sym (ap (λ (t : List ℕ). t ++ xs) written_x) ∙ same ∙ ap (λ (t : List ℕ). t ++ ys) written_y in
            let letters : letter ≡ other = cc in
            let tails : xs ≡ ys = cc in
            (back_x ∙ ap byte_of letters ∙ sym back_y, tails)
      ]
    ]

-- a byte that ends a field begins nothing that is written for a byte
pub record IsEnd (delimiter end : ℕ) : Type 0 where
  pub no_backslash : end ≢ 92
  pub begins_none : (x : ℕ) (xs rest : List ℕ) → escaped delimiter x ++ xs ≢ end ∷ rest

-- one that can't stand for itself
apart : (delimiter end : ℕ) → end ≢ 92 → ((x : ℕ) → x ≢ 9 → x ≢ 10 → (delimiter ≡ 124 → x ≢ 124) → x ≢ end) → IsEnd delimiter end
apart delimiter end no_backslash no_other = record {
  no_backslash = no_backslash;
  begins_none = λ x xs rest same. elim (form delimiter x) [
    | itself written no_tab no_line_feed _ no_bar _ ↦
        let heads : x ∷ xs ≡ end ∷ rest = sym (ap (λ (t : List ℕ). t ++ xs) written) ∙ same in
        let is : x ≡ end = cc in
        no_other x no_tab no_line_feed no_bar is
    | escape letter written _ _ _ _ _ ↦
        let heads : 92 ∷ letter ∷ xs ≡ end ∷ rest = sym (ap (λ (t : List ℕ). t ++ xs) written) ∙ same in
        let is : end ≡ 92 = cc in
        no_backslash is
  ];
}

-- the line feed and the delimiters are such bytes
line_feed_ends : (delimiter : ℕ) → IsEnd delimiter 10
line_feed_ends delimiter = apart delimiter 10 (omega arith) (λ x _ no_line_feed _. no_line_feed)

delimiter_ends : (delimiter : ℕ) → IsDelimiter delimiter → IsEnd delimiter delimiter
delimiter_ends delimiter (inl tab) = apart delimiter delimiter (omega arith) (λ x no_tab _ _ is. no_tab (is ∙ tab))
delimiter_ends delimiter (inr bar) = apart delimiter delimiter (omega arith) (λ x _ _ no_bar is. no_bar bar (is ∙ bar))

pub ends-apart : (delimiter end : ℕ) → IsDelimiter delimiter → EndsField delimiter end → IsEnd delimiter end
ends-apart delimiter end delimits (inl is) = subst (λ (e : ℕ). IsEnd delimiter e) (sym is) (delimiter_ends delimiter delimits)
ends-apart delimiter end delimits (inr is) = subst (λ (e : ℕ). IsEnd delimiter e) (sym is) (line_feed_ends delimiter)

-- two texts, each with a byte after it that ends the field
texts-same : (delimiter end other_end : ℕ) → IsEnd delimiter end → IsEnd delimiter other_end → (xs ys rest other_rest : List ℕ) → escaped_text delimiter xs ++ end ∷ rest ≡ escaped_text delimiter ys ++ other_end ∷ other_rest → (xs ≡ ys) × (end ≡ other_end) × (rest ≡ other_rest)
texts-same delimiter end other_end ends other_ends [] [] rest other_rest same = (refl, cc, cc)
texts-same delimiter end other_end ends other_ends [] (y ∷ ys) rest other_rest same =
    absurd (ends.begins_none y (escaped_text delimiter ys ++ other_end ∷ other_rest) rest
    (sym (same ∙ append_assoc (escaped delimiter y) (escaped_text delimiter ys) (other_end ∷ other_rest))))
texts-same delimiter end other_end ends other_ends (x ∷ xs) [] rest other_rest same =
    absurd (other_ends.begins_none x (escaped_text delimiter xs ++ end ∷ rest) other_rest
    (sym (append_assoc (escaped delimiter x) (escaped_text delimiter xs) (end ∷ rest)) ∙ same))
texts-same delimiter end other_end ends other_ends (x ∷ xs) (y ∷ ys) rest other_rest same =
    let first : (x ≡ y) × (escaped_text delimiter xs ++ end ∷ rest ≡ escaped_text delimiter ys ++ other_end ∷ other_rest) =
    escaped-same delimiter x y (escaped_text delimiter xs ++ end ∷ rest) (escaped_text delimiter ys ++ other_end ∷ other_rest)
    (sym (append_assoc (escaped delimiter x) (escaped_text delimiter xs) (end ∷ rest))
    ∙ same
    ∙ append_assoc (escaped delimiter y) (escaped_text delimiter ys) (other_end ∷ other_rest)) in
    let later : (xs ≡ ys) × (end ≡ other_end) × (rest ≡ other_rest) = texts-same delimiter end other_end ends other_ends xs ys rest other_rest first.1 in
    let bytes : x ∷ xs ≡ y ∷ ys = cc in
    (bytes, later.1, later.2)

-- a null field and a text, each with a byte after it that ends the field
pub null-apart : (delimiter end : ℕ) → IsEnd delimiter end → (bytes rest other_rest : List ℕ) → escaped_text delimiter bytes ++ end ∷ rest ≢ 92 ∷ 78 ∷ other_rest
null-apart delimiter end ends [] rest other_rest same =
    let is : end ≡ 92 = cc in
    ends.no_backslash is
null-apart delimiter end ends (x ∷ xs) rest other_rest same =
    let more : List ℕ = escaped_text delimiter xs ++ end ∷ rest in
    let whole : escaped delimiter x ++ more ≡ 92 ∷ 78 ∷ other_rest =
    sym (append_assoc (escaped delimiter x) (escaped_text delimiter xs) (end ∷ rest)) ∙ same in
    elim (form delimiter x) [
      | itself written _ _ no_backslash _ _ ↦
          let heads : x ∷ more ≡ 92 ∷ 78 ∷ other_rest = sym (ap (λ (t : List ℕ). t ++ more) written) ∙ whole in
          let is : x ≡ 92 = cc in
          no_backslash is
      | escape letter written _ _ _ no_n _ ↦
          let heads : 92 ∷ letter ∷ more ≡ 92 ∷ 78 ∷ other_rest = sym (ap (λ (t : List ℕ). t ++ more) written) ∙ whole in
          let is : letter ≡ 78 = cc in
          no_n is
    ]

-- the same of texts with nothing after them
pub escaped_text-same : (delimiter : ℕ) (xs ys : List ℕ) → escaped_text delimiter xs ≡ escaped_text delimiter ys → xs ≡ ys
escaped_text-same delimiter xs ys same =
    (texts-same delimiter 10 10 (line_feed_ends delimiter) (line_feed_ends delimiter) xs ys [] [] (ap (λ (t : List ℕ). t ++ 10 ∷ []) same)).0

pub escaped_text-null : (delimiter : ℕ) (bytes : List ℕ) → escaped_text delimiter bytes ≢ codes "\\N"
escaped_text-null delimiter bytes same =
    null-apart delimiter 10 (line_feed_ends delimiter) bytes [] (10 ∷ []) (ap (λ (t : List ℕ). t ++ 10 ∷ []) same)

-- two fields, each with a byte after it that ends it
fields-same : (delimiter end other_end : ℕ) → IsEnd delimiter end → IsEnd delimiter other_end → (field other : Option (List ℕ)) (rest other_rest : List ℕ) → field_text delimiter field ++ end ∷ rest ≡ field_text delimiter other ++ other_end ∷ other_rest → (field ≡ other) × (end ≡ other_end) × (rest ≡ other_rest)
fields-same delimiter end other_end ends other_ends None None rest other_rest same = (refl, cc, cc)
fields-same delimiter end other_end ends other_ends None (Some ys) rest other_rest same =
    absurd (null-apart delimiter other_end other_ends ys other_rest (end ∷ rest) (sym same))
fields-same delimiter end other_end ends other_ends (Some xs) None rest other_rest same =
    absurd (null-apart delimiter end ends xs rest (other_end ∷ other_rest) same)
fields-same delimiter end other_end ends other_ends (Some xs) (Some ys) rest other_rest same =
    let texts : (xs ≡ ys) × (end ≡ other_end) × (rest ≡ other_rest) = texts-same delimiter end other_end ends other_ends xs ys rest other_rest same in
    (ap Some texts.0, texts.1, texts.2)

pub field_text-same : (delimiter end other_end : ℕ) (field other : Option (List ℕ)) (rest other_rest : List ℕ) → IsDelimiter delimiter → EndsField delimiter end → EndsField delimiter other_end → field_text delimiter field ++ end ∷ rest ≡ field_text delimiter other ++ other_end ∷ other_rest → (field ≡ other) × (end ≡ other_end) × (rest ≡ other_rest)
field_text-same delimiter end other_end field other rest other_rest delimits ends other_ends same =
    fields-same delimiter end other_end (ends-apart delimiter end delimits ends) (ends-apart delimiter other_end delimits other_ends) field other rest other_rest same
