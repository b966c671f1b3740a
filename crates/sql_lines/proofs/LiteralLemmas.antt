-- A literal gives back its field.
use Rattle.std.proofs.Common.{◌≡◌, ◌≢◌, ◌<◌, ℕ, ℤ, pos, negsuc, zero, suc, ◌/◌, ◌%◌, ◌^◌, ◌==◌, true, false, List, [], ◌∷◌, ◌++◌, Option, Some, None, codes, decimal, drop, flat_map, get_or, inl, inr, refl, ap, sym, ◌∙◌, arith}
use Rattle.std.specs.Prelude.{IfSome}
use Rattle.std.specs.Fmt.{digit_glyph, digits, digits_onto, signed_decimal}
use Rattle.std.specs.List.{list_all}
use Rattle.std.specs.Option.{option_and_then, option_map}
use Rattle.std.proofs.lemmas.Bool.{and_parts, cases_Bool, cases_eq, false≢true, lt-ltb}
use Rattle.schema_facts.specs.Dictionaries.{Project}
use Rattle.schema_facts.specs.Layout.{ColumnLayout, LeafLayout, int_leaf, fixed_leaf, date_leaf, pick_leaf, skew_leaf, dict_leaf, words_leaf, chars_leaf, uuid_leaf, KindLayout, key_kind, born_kind, changed_kind, leaf_kind, template_kind, case_kind, reference_kind, lookup_kind, list_kind, unit_date_kind, after_kind, sum_kind, product_kind, column_at, table_at}
use Rattle.draw_values.specs.Digits.{pointed, signed_pointed}
use Rattle.draw_values.specs.declared.leaf_numbers.Number.{Number}
use Rattle.draw_values.specs.Values.{number_text, Draws, branch_at, is_null, leaf_value, unless_null}
use Rattle.life_intervals.specs.Generator.{Generator, generator_of}
use Rattle.life_intervals.specs.Rows.{Row}
use Rattle.row_lines.specs.Lines.{field, field_in_table, value, value_in_table}
use Rattle.row_lines.specs.RowViews.{draws_of}
use Rattle.sql_lines.specs.Bare.{is_bare, is_bare_at, is_bare_in_table, is_bare_leaf}
use Rattle.sql_lines.specs.Literals.{literal, quoted, quoted_text}
use Rattle.sql_lines.specs.Statements.{literal_at}
use Rattle.sql_lines.proofs.ReadingLemmas.{quoted-other, quoted-quote}

-- ---- between quotes

step-quote : (byte : ℕ) (text : List ℕ) → byte ≡ 39 → flat_map quoted (byte ∷ text) ++ 39 ∷ [] ≡ 39 ∷ 39 ∷ (flat_map quoted text ++ 39 ∷ [])
step-quote byte text is = ap (λ (first : List ℕ). (first ++ flat_map quoted text) ++ 39 ∷ []) (quoted-quote byte is)

step-other : (byte : ℕ) (text : List ℕ) → byte ≢ 39 → flat_map quoted (byte ∷ text) ++ 39 ∷ [] ≡ byte ∷ (flat_map quoted text ++ 39 ∷ [])
step-other byte text other = ap (λ (first : List ℕ). (first ++ flat_map quoted text) ++ 39 ∷ []) (quoted-other byte other)

some-behind : (text : List ℕ) (rest : List ℕ) → text ++ 39 ∷ rest ≡ [] → ⊥
some-behind [] rest same = cc
some-behind (byte ∷ text) rest same = cc

-- the quote after a text is no byte of it
quoted-none : (byte : ℕ) (other : List ℕ) → 39 ∷ [] ≡ flat_map quoted (byte ∷ other) ++ 39 ∷ [] → ⊥
quoted-none byte other same = elim (cases_eq byte 39) [
  | inl quote ↦
      let lists : 39 ∷ [] ≡ 39 ∷ 39 ∷ (flat_map quoted other ++ 39 ∷ []) = same ∙ step-quote byte other quote in
      absurd (cc)
  | inr apart ↦
      let lists : 39 ∷ [] ≡ byte ∷ (flat_map quoted other ++ 39 ∷ []) = same ∙ step-other byte other apart in
      let is : 39 ≡ byte = cc in
      absurd (apart (sym is))
]

quoted-same : (text other : List ℕ) → flat_map quoted text ++ 39 ∷ [] ≡ flat_map quoted other ++ 39 ∷ [] → text ≡ other
quoted-same [] [] same = refl
quoted-same [] (byte ∷ other) same = absurd (quoted-none byte other same)
quoted-same (byte ∷ text) [] same = absurd (quoted-none byte text (sym same))
quoted-same (byte ∷ text) (first ∷ other) same = elim (cases_eq byte 39) [
  | inl quote ↦ elim (cases_eq first 39) [
    | inl both ↦
        let lists : 39 ∷ 39 ∷ (flat_map quoted text ++ 39 ∷ []) ≡ 39 ∷ 39 ∷ (flat_map quoted other ++ 39 ∷ []) = sym (step-quote byte text quote) ∙ same ∙ step-quote first other both in
        let rest : flat_map quoted text ++ 39 ∷ [] ≡ flat_map quoted other ++ 39 ∷ [] = cc in
        let is : byte ≡ first = quote ∙ sym both in
        let texts : text ≡ other = quoted-same text other rest in
        cc
    | inr apart ↦
        let lists : 39 ∷ 39 ∷ (flat_map quoted text ++ 39 ∷ []) ≡ first ∷ (flat_map quoted other ++ 39 ∷ []) = sym (step-quote byte text quote) ∙ same ∙ step-other first other apart in
        let is : 39 ≡ first = cc in
        absurd (apart (sym is))
  ]
  | inr apart ↦ elim (cases_eq first 39) [
    | inl both ↦
        let lists : byte ∷ (flat_map quoted text ++ 39 ∷ []) ≡ 39 ∷ 39 ∷ (flat_map quoted other ++ 39 ∷ []) = sym (step-other byte text apart) ∙ same ∙ step-quote first other both in
        let is : byte ≡ 39 = cc in
        absurd (apart is)
    | inr other_apart ↦
        let lists : byte ∷ (flat_map quoted text ++ 39 ∷ []) ≡ first ∷ (flat_map quoted other ++ 39 ∷ []) = sym (step-other byte text apart) ∙ same ∙ step-other first other other_apart in
        let is : byte ≡ first = cc in
        let rest : flat_map quoted text ++ 39 ∷ [] ≡ flat_map quoted other ++ 39 ∷ [] = cc in
        let texts : text ≡ other = quoted-same text other rest in
        cc
  ]
]

-- no text between quotes is NULL
null-apart : (text : List ℕ) → codes "NULL" ≢ quoted_text text
null-apart text same = let firsts : 78 ≡ 39 = ap (λ (bytes : List ℕ). get_or bytes 0 0) same in omega (arith, firsts)

texts-same : (text other : List ℕ) → quoted_text text ≡ quoted_text other → text ≡ other
texts-same text other same = quoted-same text other (ap (drop 1) same)

pub quoted-tells : (field other : Option (List ℕ)) → literal false field ≡ literal false other → field ≡ other
quoted-tells None None same = refl
quoted-tells None (Some other) same = absurd (null-apart other same)
quoted-tells (Some text) None same = absurd (null-apart text (sym same))
quoted-tells (Some text) (Some other) same = ap Some (texts-same text other same)

-- ---- bare

-- bytes that begin, and not as NULL does
abbrev BeginsBelow : List ℕ → Type 0
BeginsBelow [] = ⊥
BeginsBelow (byte ∷ bytes) = byte < 78

no_null : (bytes : List ℕ) → BeginsBelow bytes → bytes ≢ codes "NULL"
no_null [] below same = below
no_null (byte ∷ bytes) below same = let is : byte ≡ 78 = cc in omega (arith, below, is)

glyph-below : (digit : ℕ) → digit < 10 → digit_glyph false digit < 78
glyph-below digit small = rw (lt-ltb digit 10 small) (omega (arith, small))

digits-below : (fuel n byte : ℕ) (bytes : List ℕ) → byte < 78 → BeginsBelow (digits_onto fuel 10 false n (byte ∷ bytes))
digits-below zero n byte bytes below = below
digits-below (suc fuel) n byte bytes below =
    let digit : ℕ = digit_glyph false (n % 10) in
    let small : digit < 78 = glyph-below (n % 10) (omega arith) in
    elim (cases_Bool (n / 10 == 0)) [ inl last ↦ rw last small | inr more ↦ rw more (digits-below fuel (n / 10) digit (byte ∷ bytes) small) ]

decimal-below : (n : ℕ) → BeginsBelow (decimal n)
unfolding digits
decimal-below n =
    let digit : ℕ = digit_glyph false (n % 10) in
    let small : digit < 78 = glyph-below (n % 10) (omega arith) in
    elim (cases_Bool (n / 10 == 0)) [ inl last ↦ rw last small | inr more ↦ rw more (digits-below 63 (n / 10) digit [] small) ]

signed-below : (z : ℤ) → BeginsBelow (signed_decimal z)
signed-below (pos n) = decimal-below n
signed-below (negsuc n) = omega arith

begins-append : (bytes rest : List ℕ) → BeginsBelow bytes → BeginsBelow (bytes ++ rest)
begins-append [] rest below = absurd below
begins-append (byte ∷ bytes) rest below = below

pointed-below : (decimals n : ℕ) → BeginsBelow (pointed decimals n)
pointed-below zero n = decimal-below n
pointed-below (suc decimals) n = begins-append (decimal (n / 10 ^ suc decimals)) _ (decimal-below (n / 10 ^ suc decimals))

signed_pointed-below : (decimals : ℕ) (z : ℤ) → BeginsBelow (signed_pointed decimals z)
signed_pointed-below decimals (pos n) = pointed-below decimals n
signed_pointed-below decimals (negsuc n) = omega arith

-- the field of a column with bare literals
abbrev IsNumber : Option (List ℕ) → Type 0
IsNumber held = IfSome held BeginsBelow

leaf-number : (leaf : LeafLayout) (draw : Draws) → is_bare_leaf leaf ≡ true → IsNumber (leaf_value leaf draw)
leaf-number (int_leaf lo hi step) draw is = signed-below _
leaf-number (fixed_leaf lo hi decimals) draw is = signed_pointed-below decimals _
leaf-number (skew_leaf lo size power) draw is = signed-below _
leaf-number (date_leaf lo hi) draw is = absurd (false≢true is)
leaf-number (pick_leaf entries weights) draw is = absurd (false≢true is)
leaf-number (dict_leaf words) draw is = absurd (false≢true is)
leaf-number (words_leaf words lo hi) draw is = absurd (false≢true is)
leaf-number (chars_leaf alphabet lo hi) draw is = absurd (false≢true is)
leaf-number uuid_leaf draw is = absurd (false≢true is)

branch-bare : (branches : List LeafLayout) (entry : ℕ) → list_all is_bare_leaf branches ≡ true → is_bare_leaf (branch_at branches entry) ≡ true
branch-bare [] entry is = refl
branch-bare (branch ∷ branches) zero is = (and_parts (is_bare_leaf branch) (list_all is_bare_leaf branches) is).0
branch-bare (branch ∷ branches) (suc entry) is = branch-bare branches entry (and_parts (is_bare_leaf branch) (list_all is_bare_leaf branches) is).1

case-number : (branches : List LeafLayout) (draw : Draws) (entry : Option ℕ) → list_all is_bare_leaf branches ≡ true →
    IsNumber (option_and_then (λ e. leaf_value (branch_at branches e) draw) entry)
case-number branches draw None is = tt
case-number branches draw (Some entry) is = leaf-number (branch_at branches entry) draw (branch-bare branches entry is)

reference-number : (key : ℕ → ℕ) (parent : Option ℕ) → IsNumber (option_map (λ ordinal. decimal (key ordinal)) parent)
reference-number key None = tt
reference-number key (Some parent) = decimal-below (key parent)

total-number : (number : Option Number) → IsNumber (option_map number_text number)
total-number None = tt
total-number (Some number) = signed_pointed-below number.decimals number.value

unless-number : (null : ℕ) (draw : Draws) (held : Option (List ℕ)) → IsNumber held → IsNumber (unless_null null draw held)
unless-number null draw held is = elim (cases_Bool (is_null null draw)) [ inl none ↦ rw none tt | inr there ↦ rw there is ]

module _ (generator : Generator) (place : ℕ) (row : Row) (column : ℕ) where
  in_table : (kind : KindLayout) → is_bare_in_table kind ≡ true → IsNumber (value_in_table generator place row column kind)
  in_table key_kind is = decimal-below _
  in_table born_kind is = decimal-below _
  in_table changed_kind is = decimal-below _
  in_table (leaf_kind leaf) is = leaf-number leaf _ is
  in_table (case_kind on branches) is = case-number branches _ _ is
  in_table (reference_kind parent window spread nulls drawn) is = reference-number _ _
  in_table (template_kind parts) is = absurd (false≢true is)
  in_table (lookup_kind via parent name) is = absurd (false≢true is)
  in_table (list_kind words) is = absurd (false≢true is)
  in_table (unit_date_kind changed start step) is = absurd (false≢true is)
  in_table (after_kind of lo hi) is = absurd (false≢true is)
  in_table (sum_kind of) is = total-number _
  in_table (product_kind of) is = total-number _

  field-in_table : is_bare_in_table (column_at (table_at generator.tables place).columns column).kind ≡ true → IsNumber (field_in_table generator place row column)
  field-in_table is =
      let own : ColumnLayout = column_at (table_at generator.tables place).columns column in
      unless-number own.null (draws_of generator place row column) (value_in_table generator place row column own.kind) (in_table own.kind is)

held-number : (generator : Generator) (parent column : ℕ) (held : Option Row) → is_bare_in_table (column_at (table_at generator.tables parent).columns column).kind ≡ true →
    IsNumber (option_and_then (λ (row : Row). field_in_table generator parent row column) held)
held-number generator parent column None is = tt
held-number generator parent column (Some row) is = field-in_table generator parent row column is

value-number : (generator : Generator) (unit place : ℕ) (row : Row) (column : ℕ) (kind : KindLayout) → is_bare generator.tables kind ≡ true → IsNumber (value generator unit place row column kind)
value-number generator unit place row column key_kind is = in_table generator place row column key_kind is
value-number generator unit place row column born_kind is = in_table generator place row column born_kind is
value-number generator unit place row column changed_kind is = in_table generator place row column changed_kind is
value-number generator unit place row column (leaf_kind leaf) is = in_table generator place row column (leaf_kind leaf) is
value-number generator unit place row column (template_kind parts) is = in_table generator place row column (template_kind parts) is
value-number generator unit place row column (case_kind on branches) is = in_table generator place row column (case_kind on branches) is
value-number generator unit place row column (reference_kind parent window spread nulls drawn) is = in_table generator place row column (reference_kind parent window spread nulls drawn) is
value-number generator unit place row column (lookup_kind via parent name) is = held-number generator parent name _ is
value-number generator unit place row column (list_kind words) is = in_table generator place row column (list_kind words) is
value-number generator unit place row column (unit_date_kind changed start step) is = in_table generator place row column (unit_date_kind changed start step) is
value-number generator unit place row column (after_kind of lo hi) is = in_table generator place row column (after_kind of lo hi) is
value-number generator unit place row column (sum_kind of) is = in_table generator place row column (sum_kind of) is
value-number generator unit place row column (product_kind of) is = in_table generator place row column (product_kind of) is

bare-same : (field other : Option (List ℕ)) → IsNumber field → IsNumber other → literal true field ≡ literal true other → field ≡ other
bare-same None None is other_is same = refl
bare-same None (Some other) is other_is same = absurd (no_null other other_is (sym same))
bare-same (Some text) None is other_is same = absurd (no_null text is same)
bare-same (Some text) (Some other) is other_is same = ap Some same

-- ---- of one column

pub column-tells : (plan : Project) (place column unit other_unit : ℕ) (row other : Row) → literal_at plan unit place row column ≡ literal_at plan other_unit place other column →
    field (generator_of plan) unit place row column ≡ field (generator_of plan) other_unit place other column
column-tells plan place column unit other_unit row other same = elim (cases_Bool (is_bare_at plan place column)) [
  | inr between ↦ quoted-tells (field (generator_of plan) unit place row column) (field (generator_of plan) other_unit place other column) (rw between at same)
  | inl bare ↦
      let generator : Generator = generator_of plan in
      let own : ColumnLayout = column_at (table_at generator.tables place).columns column in
      let number : (u : ℕ) (r : Row) → IsNumber (field generator u place r column) = λ u r.
      unless-number own.null (draws_of generator place r column) (value generator u place r column own.kind) (value-number generator u place r column own.kind bare) in
      bare-same (field generator unit place row column) (field generator other_unit place other column) (number unit row) (number other_unit other) (rw bare at same)
]
