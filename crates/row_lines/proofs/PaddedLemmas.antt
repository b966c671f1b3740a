-- Padded numbers, as they are written.
use Rattle.std.proofs.Common.{◌≡◌, ◌≤◌, ◌+◌, ◌-◌, ◌%◌, ◌/◌, ◌==◌, ◌++◌, ℕ, ℤ, pos, negsuc, zero, suc, Bool, true, false, List, [], ◌∷◌, Option, Some, None, IfSome, append-nil, decimal, drop, if◌then◌else◌, length, max, min, nat_lt, replicate, take, take-append-drop, unwrap_or, refl, sym, ap, ap₂, ◌∙◌, arith}
use Rattle.std.specs.Fmt.{digit_glyph, digits, digits_onto, signed_decimal}
use Rattle.std.specs.List.{flat_map}
use Rattle.std.specs.Option.{option_map}
use Rattle.std.proofs.lemmas.Bool.Decides.{nat_tests}
use Rattle.std.proofs.lemmas.List.{length-append, length-drop, length-replicate, length-take}
use Rattle.std.proofs.lemmas.List.Concat.{flat_map-cons}
use Rattle.std.proofs.Math.Seq.{drop-append_seam, take-append_seam}
use Rattle.line_pages.specs.Padding.{padded, sign_size}
use Rattle.line_pages.specs.Pages.{Page}
use Rattle.line_pages.proofs.PaddingLemmas.{sign-within}
use Rattle.row_text.specs.Fields.{escaped, escaped_text}
use Rattle.row_text.proofs.EscapeLemmas.{escaped-digit}
use Rattle.schema_facts.specs.Layout.{ColumnLayout, KindLayout, LeafLayout, born_kind, changed_kind, column_at, int_leaf, key_kind, leaf_kind, reference_kind, skew_leaf, table_at}
use Rattle.schema_plan.specs.Limits.{IsFilled, is_whole_kind, is_whole_leaf}
use Rattle.draw_values.specs.declared.values.Put.TheVariants.{Text, Null}
use Rattle.draw_values.specs.Values.{Draws, is_null, leaf_value, put_of, written}
use Rattle.life_intervals.specs.Generator.{Generator}
use Rattle.life_intervals.specs.Keys.{key_of}
use Rattle.life_intervals.specs.Rows.{Row}
use Rattle.row_lines.specs.Lines.{field_alone, value_alone}
use Rattle.row_lines.specs.RowViews.{draws_of, parent_of_row}
use Rattle.row_lines.specs.Parts.{written_padded}

-- ---- bytes that stand for themselves

-- a text that is written as it is
abbrev pub IsPlain : ℕ → List ℕ → Type 0
IsPlain delimiter [] = Unit {0}
IsPlain delimiter (byte ∷ bytes) = (escaped delimiter byte ≡ byte ∷ []) × IsPlain delimiter bytes

plain-written : (delimiter : ℕ) (bytes : List ℕ) → IsPlain delimiter bytes → escaped_text delimiter bytes ≡ bytes
plain-written delimiter [] plain = refl
plain-written delimiter (byte ∷ bytes) plain =
    flat_map-cons (escaped delimiter) byte bytes
    ∙ ap (λ (own : List ℕ). own ++ flat_map (escaped delimiter) bytes) plain.0
    ∙ ap (λ (rest : List ℕ). byte ∷ rest) (plain-written delimiter bytes plain.1)

plain-append : (delimiter : ℕ) (xs ys : List ℕ) → IsPlain delimiter xs → IsPlain delimiter ys → IsPlain delimiter (xs ++ ys)
plain-append delimiter [] ys xs_plain ys_plain = ys_plain
plain-append delimiter (x ∷ xs) ys xs_plain ys_plain = (xs_plain.0, plain-append delimiter xs ys xs_plain.1 ys_plain)

plain-take : (delimiter n : ℕ) (xs : List ℕ) → IsPlain delimiter xs → IsPlain delimiter (take n xs)
plain-take delimiter zero xs plain = tt
plain-take delimiter (suc n) [] plain = tt
plain-take delimiter (suc n) (x ∷ xs) plain = (plain.0, plain-take delimiter n xs plain.1)

plain-drop : (delimiter n : ℕ) (xs : List ℕ) → IsPlain delimiter xs → IsPlain delimiter (drop n xs)
plain-drop delimiter zero xs plain = plain
plain-drop delimiter (suc n) [] plain = tt
plain-drop delimiter (suc n) (x ∷ xs) plain = plain-drop delimiter n xs plain.1

plain-zeros : (delimiter n : ℕ) → IsPlain delimiter (replicate n 48)
plain-zeros delimiter zero = tt
plain-zeros delimiter (suc n) = (escaped-digit delimiter 48 (omega arith, omega arith), plain-zeros delimiter n)

-- ---- numbers

plain-glyph : (delimiter n : ℕ) → escaped delimiter (digit_glyph false (n % 10)) ≡ digit_glyph false (n % 10) ∷ []
plain-glyph delimiter n =
    let few : nat_lt (n % 10) 10 ≡ true = grind (arith, nat_tests) in
    let glyph : digit_glyph false (n % 10) ≡ 48 + n % 10 = ap (λ (is : Bool). if is then 48 + n % 10 else 87 + n % 10) few in
    ap (escaped delimiter) glyph ∙ escaped-digit delimiter (48 + n % 10) (omega arith, omega arith) ∙ ap (λ (byte : ℕ). byte ∷ []) (sym glyph)

plain-digits : (delimiter k n : ℕ) (behind : List ℕ) → IsPlain delimiter behind → IsPlain delimiter (digits_onto k 10 false n behind)
plain-digits delimiter zero n behind plain = plain
plain-digits delimiter (suc k) n behind plain =
    of_test (n / 10 == 0) (plain-digits delimiter k (n / 10) (digit_glyph false (n % 10) ∷ behind) (plain-glyph delimiter n, plain))
  where
    of_test : (last : Bool) → IsPlain delimiter (digits_onto k 10 false (n / 10) (digit_glyph false (n % 10) ∷ behind)) →
        IsPlain delimiter (if last then digit_glyph false (n % 10) ∷ behind else digits_onto k 10 false (n / 10) (digit_glyph false (n % 10) ∷ behind))
    of_test true more = (plain-glyph delimiter n, plain)
    of_test false more = more

plain-decimal : (delimiter n : ℕ) → IsPlain delimiter (decimal n)
unfolding digits
plain-decimal delimiter n = plain-digits delimiter 64 n [] tt

plain-minus : (delimiter : ℕ) → escaped delimiter 45 ≡ 45 ∷ []
unfolding escaped
plain-minus delimiter = refl

plain-signed : (delimiter : ℕ) (z : ℤ) → IsPlain delimiter (signed_decimal z)
plain-signed delimiter (pos n) = plain-decimal delimiter n
plain-signed delimiter (negsuc n) = (plain-minus delimiter, plain-decimal delimiter (suc n))

-- ---- columns of whole numbers

of_leaf : (delimiter : ℕ) (leaf : LeafLayout) (draw : Draws) → is_whole_leaf leaf ≡ true → IfSome (leaf_value leaf draw) (IsPlain delimiter)
of_leaf delimiter (int_leaf lo hi step) draw whole = plain-signed delimiter _
of_leaf delimiter (skew_leaf lo size power) draw whole = plain-signed delimiter _
of_leaf delimiter _ draw whole = cc

of_kind : (delimiter : ℕ) (generator : Generator) (place : ℕ) (row : Row) (column : ℕ) (kind : KindLayout) → is_whole_kind kind ≡ true →
    IfSome (value_alone generator place row column kind) (IsPlain delimiter)
of_kind delimiter generator place row column key_kind whole = plain-decimal delimiter _
of_kind delimiter generator place row column born_kind whole = plain-decimal delimiter _
of_kind delimiter generator place row column changed_kind whole = plain-decimal delimiter _
of_kind delimiter generator place row column (leaf_kind leaf) whole = of_leaf delimiter leaf (draws_of generator place row column) whole
of_kind delimiter generator place row column (reference_kind parent window spread nulls drawn) whole =
    of_parent (parent_of_row (table_at generator.tables place) row column)
  where
    of_parent : (held : Option ℕ) → IfSome (option_map (λ ordinal. decimal (key_of generator parent row.born ordinal)) held) (IsPlain delimiter)
    of_parent None = tt
    of_parent (Some ordinal) = plain-decimal delimiter _
of_kind delimiter generator place row column _ whole = cc

-- what a row holds in one, where it isn't null
pub whole-plain : (delimiter : ℕ) (generator : Generator) (place : ℕ) (row : Row) (column : ℕ) →
    is_whole_kind (column_at (table_at generator.tables place).columns column).kind ≡ true → IfSome (field_alone generator place row column) (IsPlain delimiter)
whole-plain delimiter generator place row column whole =
    of_null (is_null (column_at (table_at generator.tables place).columns column).null (draws_of generator place row column))
  where
    held : Option (List ℕ)
    held = value_alone generator place row column (column_at (table_at generator.tables place).columns column).kind

    of_null : (null : Bool) → IfSome (if null then None else held) (IsPlain delimiter)
    of_null true = tt
    of_null false = of_kind delimiter generator place row column (column_at (table_at generator.tables place).columns column).kind whole

-- ---- what is padded

-- up to no byte: the text itself
padded-none : (text : List ℕ) → padded 0 text ≡ text
padded-none text =
    let none : 0 - length text ≡ 0 = omega arith in
    ap (λ (k : ℕ). take (sign_size text) text ++ replicate k 48 ++ drop (sign_size text) text) none
    ∙ ap (λ (first : List ℕ). first ++ drop (sign_size text) text) (append-nil (take (sign_size text) text))
    ∙ take-append-drop (sign_size text) text

pub unpadded : (value : Option (List ℕ)) → unwrap_or (option_map (padded 0) value) [] ≡ unwrap_or value []
unpadded None = refl
unpadded (Some text) = padded-none text

padded-plain : (delimiter width : ℕ) (text : List ℕ) → IsPlain delimiter text → IsPlain delimiter (padded width text)
padded-plain delimiter width text plain =
    plain-append delimiter (take (sign_size text) text ++ replicate (width - length text) 48) (drop (sign_size text) text)
    (plain-append delimiter (take (sign_size text) text) (replicate (width - length text) 48) (plain-take delimiter (sign_size text) text plain) (plain-zeros delimiter (width - length text)))
    (plain-drop delimiter (sign_size text) text plain)

length-padded : (width : ℕ) (text : List ℕ) → length (padded width text) ≡ max (length text) width
length-padded width text =
    let sign = sign_size text in
    let zero_digit : ℕ = 48 in
    let zeros : List ℕ = replicate (width - length text) zero_digit in
    omega (
      arith,
      length-append (take sign text ++ zeros) (drop sign text),
      length-append (take sign text) zeros,
      length-replicate (width - length text) zero_digit,
      length-take sign text,
      length-drop sign text,
      sign-within text,
    )

-- a number is padded as it is written
pub written-padded : (delimiter width : ℕ) (value : Option (List ℕ)) → (1 ≤ width → IfSome value (IsPlain delimiter)) →
    written_padded delimiter width value ≡ escaped_text delimiter (unwrap_or (option_map (padded width) value) [])
written-padded delimiter width None plain = refl
written-padded delimiter zero (Some text) plain =
    padded-none (escaped_text delimiter text) ∙ ap (escaped_text delimiter) (sym (padded-none text))
written-padded delimiter (suc width) (Some text) plain =
    let itself = plain (omega arith) in
    ap (padded (suc width)) (plain-written delimiter text itself)
    ∙ sym (plain-written delimiter (padded (suc width) text) (padded-plain delimiter (suc width) text itself))

-- what is filled has at most 64 bytes, and so has what is not
pub few_filled : (columns : List ColumnLayout) (column width : ℕ) → (1 ≤ width → IsFilled columns column width) → width ≤ 64
few_filled columns column zero filled = omega arith
few_filled columns column (suc width) filled = (filled (omega arith)).few

-- ---- what is put

-- a text that is put and then filled
pub put-padded : (delimiter width : ℕ) (value : Option (List ℕ)) (page put after : Page) (from : ℕ) → from ≡ length page.text →
    put ≡ record page { text = page.text ++ written delimiter value } → Text ≡ put_of value →
    after ≡ record put { text = take from put.text ++ padded width (drop from put.text) } →
    after ≡ record page { text = page.text ++ written_padded delimiter width value }
put-padded delimiter width None page put after from from_is put_is text after_is = absurd (cc)
put-padded delimiter width (Some text) page put after from from_is put_is is_text after_is =
    after_is
    ∙ ap (λ (page : Page). record page { text = take from page.text ++ padded width (drop from page.text) }) put_is
    ∙ ap (λ (k : ℕ). record page { text = take k (page.text ++ escaped_text delimiter text) ++ padded width (drop k (page.text ++ escaped_text delimiter text)) }) from_is
    ∙ ap₂ (λ (first last : List ℕ). record page { text = first ++ padded width last }) (take-append_seam page.text (escaped_text delimiter text)) (drop-append_seam page.text (escaped_text delimiter text))

-- a null is put as nothing
pub put-none : (delimiter width : ℕ) (value : Option (List ℕ)) (page put : Page) → put ≡ record page { text = page.text ++ written delimiter value } → Null ≡ put_of value →
    put ≡ record page { text = page.text ++ written_padded delimiter width value }
put-none delimiter width None page put put_is null = put_is
put-none delimiter width (Some text) page put put_is null = absurd (cc)

pub length-written_padded : (delimiter width size : ℕ) (value : Option (List ℕ)) → width ≤ 64 → length (written delimiter value) ≤ size →
    length (written_padded delimiter width value) ≤ max size (min width 64)
length-written_padded delimiter width size None few within = omega arith
length-written_padded delimiter width size (Some text) few within = omega (arith, length-padded width (escaped_text delimiter text), within, few)
