-- What a row holds in a column, and how long it is.
use Rattle.std.proofs.Common.{◌≡◌, ◌<◌, ◌≤◌, ◌^◌, ◌*◌, ◌+ℤ◌, pos, ℕ, ℤ, ◌%◌, List, [], ◌++◌, flat_map, unwrap_or, Bool, Option, Some, None, length, codes, decimal, false, true, if◌then◌else◌, nat_lt, refl, ap, sym, ◌∙◌, arith}
use Rattle.std.specs.Prelude.{slice_index_or}
use Rattle.std.proofs.lemmas.Bool.Decides.{nat_tests}
use Rattle.std.proofs.lemmas.Fmt.{length-decimal-le}
use Rattle.std.specs.Option.{option_map}
use Rattle.line_pages.specs.Padding.{padded}
use Rattle.row_text.specs.Fields.{field_text}
use Rattle.cohort_sizes.specs.Births.{born_count}
use Rattle.schema_facts.specs.Layout.{ColumnLayout, KindLayout, LeafLayout, PartLayout, born_kind, case_kind, changed_kind, cited_part, column_at, key_kind, leaf_kind, lookup_kind, list_kind, unit_date_kind, after_kind, sum_kind, product_kind, reference_kind, table_at, template_kind}
use Rattle.schema_plan.specs.Limits.{is_cited, is_lookup_kind}
use Rattle.dictionaries.specs.WordList.{WordList}
use Rattle.draw_values.specs.Dates.{date_text}
use Rattle.draw_values.specs.Values.{Draws, is_own, leaf_value, own_field, own_value, unless_null}
use Rattle.life_intervals.specs.Generator.{Generator}
use Rattle.life_intervals.specs.Intervals.{row_at}
use Rattle.life_intervals.specs.Keys.{key_in_cohort, key_of}
use Rattle.life_intervals.specs.Rows.{Row, index_in_cohort}
use Rattle.row_lines.specs.Lines.{field, field_alone, field_in_table, key_line_of, part_text, value, value_alone, value_in_table}
use Rattle.row_lines.specs.RowViews.{at_row, draws_of}
use Rattle.row_lines.proofs.LineLemmas.{key_of-by}

-- a field of a column that is never null
pub unless_null-never : {A : Type 0} (null : ℕ) (draw : Draws) (held : Option A) → null ≡ 0 → unless_null null draw held ≡ held
unless_null-never null draw held never =
    let passed : nat_lt (draw 0 % 1000) null ≡ false = grind (arith, nat_tests) in
    ap (λ (is_null : Bool). if is_null then None else held) passed

-- its key
pub field-key : (generator : Generator) (unit place ordinal column : ℕ) → (column_at (table_at generator.tables place).columns column).kind ≡ key_kind →
    (column_at (table_at generator.tables place).columns column).null ≡ 0 →
    field generator unit place (row_at generator place unit ordinal) column ≡ Some (decimal (key_of generator place unit ordinal))
unfolding key_of
field-key generator unit place ordinal column is never =
    let row : Row = row_at generator place unit ordinal in
    let of : ColumnLayout = column_at (table_at generator.tables place).columns column in
    unless_null-never of.null (draws_of generator place row column) (value generator unit place row column of.kind) never
    ∙ ap (value generator unit place row column) is

-- what it holds in a column that is no lookup needs no other row
value-in_table : (generator : Generator) (unit place column : ℕ) (row : Row) (kind : KindLayout) → is_lookup_kind kind ≡ false →
    value generator unit place row column kind ≡ value_in_table generator place row column kind
value-in_table generator unit place column row key_kind no_lookup = refl
value-in_table generator unit place column row born_kind no_lookup = refl
value-in_table generator unit place column row changed_kind no_lookup = refl
value-in_table generator unit place column row (leaf_kind leaf) no_lookup = refl
value-in_table generator unit place column row (template_kind parts) no_lookup = refl
value-in_table generator unit place column row (case_kind on branches) no_lookup = refl
value-in_table generator unit place column row (reference_kind parent window spread nulls drawn) no_lookup = refl
value-in_table generator unit place column row (list_kind words) no_lookup = refl
value-in_table generator unit place column row (unit_date_kind changed start step) no_lookup = refl
value-in_table generator unit place column row (after_kind of lo hi) no_lookup = refl
value-in_table generator unit place column row (sum_kind of) no_lookup = refl
value-in_table generator unit place column row (product_kind of) no_lookup = refl
value-in_table generator unit place column row _ no_lookup = cc

pub field-in_table : (generator : Generator) (unit place column : ℕ) (row : Row) → is_lookup_kind (column_at (table_at generator.tables place).columns column).kind ≡ false →
    field generator unit place row column ≡ field_in_table generator place row column
field-in_table generator unit place column row no_lookup =
    let of : ColumnLayout = column_at (table_at generator.tables place).columns column in
    ap (unless_null of.null (draws_of generator place row column)) (value-in_table generator unit place column row of.kind no_lookup)

-- a key
pub in_table-key : (generator : Generator) (place column : ℕ) (row : Row) → (column_at (table_at generator.tables place).columns column).kind ≡ key_kind →
    (column_at (table_at generator.tables place).columns column).null ≡ 0 →
    field_in_table generator place row column ≡ Some (decimal (key_in_cohort generator place row.born (index_in_cohort (table_at generator.tables place) row)))
in_table-key generator place column row is never =
    let of : ColumnLayout = column_at (table_at generator.tables place).columns column in
    unless_null-never of.null (draws_of generator place row column) (value_in_table generator place row column of.kind) never
    ∙ ap (value_in_table generator place row column) is

-- units and what is drawn
value-own : (generator : Generator) (place column : ℕ) (row : Row) (kind : KindLayout) → is_own kind ≡ true →
    value_in_table generator place row column kind ≡ own_value (table_at generator.tables place).columns (at_row row) (draws_of generator place row) column kind
value-own generator place column row born_kind own = refl
value-own generator place column row changed_kind own = refl
value-own generator place column row (leaf_kind leaf) own = refl
value-own generator place column row (case_kind on branches) own = refl
value-own generator place column row (list_kind words) own = refl
value-own generator place column row (unit_date_kind changed start step) own = refl
value-own generator place column row _ own = cc

pub in_table-own : (generator : Generator) (place column : ℕ) (row : Row) → is_own (column_at (table_at generator.tables place).columns column).kind ≡ true →
    field_in_table generator place row column ≡ own_field (table_at generator.tables place).columns (at_row row) (draws_of generator place row) column
in_table-own generator place column row own =
    let of : ColumnLayout = column_at (table_at generator.tables place).columns column in
    ap (unless_null of.null (draws_of generator place row column)) (value-own generator place column row of.kind own)

-- the parts of a template
pub in_table-template : (generator : Generator) (place column : ℕ) (row : Row) (parts : List PartLayout) → (column_at (table_at generator.tables place).columns column).kind ≡ template_kind parts →
    field_in_table generator place row column
    ≡ unless_null (column_at (table_at generator.tables place).columns column).null (draws_of generator place row column) (Some (flat_map (part_text generator place row) parts))
in_table-template generator place column row parts is =
    ap (λ (kind : KindLayout). unless_null (column_at (table_at generator.tables place).columns column).null (draws_of generator place row column) (value_in_table generator place row column kind)) is

-- what a template may cite is the field itself
value-cited : (generator : Generator) (place column : ℕ) (row : Row) (kind : KindLayout) → is_cited kind ≡ true →
    value_in_table generator place row column kind ≡ value_alone generator place row column kind
value-cited generator place column row key_kind cited = refl
value-cited generator place column row born_kind cited = refl
value-cited generator place column row changed_kind cited = refl
value-cited generator place column row (leaf_kind leaf) cited = refl
value-cited generator place column row (reference_kind parent window spread nulls drawn) cited = refl
value-cited generator place column row (list_kind words) cited = refl
value-cited generator place column row (unit_date_kind changed start step) cited = refl
value-cited generator place column row (after_kind of lo hi) cited = refl
value-cited generator place column row (sum_kind of) cited = refl
value-cited generator place column row (product_kind of) cited = refl
value-cited generator place column row _ cited = cc

pub in_table-cited : (generator : Generator) (place column : ℕ) (row : Row) → is_cited (column_at (table_at generator.tables place).columns column).kind ≡ true →
    field_in_table generator place row column ≡ field_alone generator place row column
in_table-cited generator place column row cited =
    let of : ColumnLayout = column_at (table_at generator.tables place).columns column in
    ap (unless_null of.null (draws_of generator place row column)) (value-cited generator place column row of.kind cited)

no_lookup-cited : (kind : KindLayout) → is_cited kind ≡ true → is_lookup_kind kind ≡ false
no_lookup-cited (lookup_kind via parent name) cited = cc
no_lookup-cited key_kind cited = refl
no_lookup-cited born_kind cited = refl
no_lookup-cited changed_kind cited = refl
no_lookup-cited (leaf_kind leaf) cited = refl
no_lookup-cited (template_kind parts) cited = refl
no_lookup-cited (case_kind on branches) cited = refl
no_lookup-cited (reference_kind parent window spread nulls drawn) cited = refl
no_lookup-cited (list_kind words) cited = refl
no_lookup-cited (unit_date_kind changed start step) cited = refl
no_lookup-cited (after_kind of lo hi) cited = refl
no_lookup-cited (sum_kind of) cited = refl
no_lookup-cited (product_kind of) cited = refl

field-cited : (generator : Generator) (unit place column : ℕ) (row : Row) → is_cited (column_at (table_at generator.tables place).columns column).kind ≡ true →
    field generator unit place row column ≡ field_alone generator place row column
field-cited generator unit place column row cited =
    field-in_table generator unit place column row (no_lookup-cited (column_at (table_at generator.tables place).columns column).kind cited)
    ∙ in_table-cited generator place column row cited

pub part_text-cited : (generator : Generator) (unit place column : ℕ) (row : Row) → is_cited (column_at (table_at generator.tables place).columns column).kind ≡ true →
    (width : ℕ) → part_text generator place row (cited_part column width) ≡ unwrap_or (option_map (padded width) (field generator unit place row column)) []
part_text-cited generator unit place column row cited width =
    ap (λ (held : Option (List ℕ)). unwrap_or (option_map (padded width) held) []) (sym (field-cited generator unit place column row cited))

-- the parts of a template
pub field-template : (generator : Generator) (unit place ordinal column : ℕ) (parts : List PartLayout) → (column_at (table_at generator.tables place).columns column).kind ≡ template_kind parts →
    field generator unit place (row_at generator place unit ordinal) column
    ≡ unless_null (column_at (table_at generator.tables place).columns column).null (draws_of generator place (row_at generator place unit ordinal) column)
    (Some (flat_map (part_text generator place (row_at generator place unit ordinal)) parts))
field-template generator unit place ordinal column parts is =
    let row : Row = row_at generator place unit ordinal in
    ap (λ (kind : KindLayout). unless_null (column_at (table_at generator.tables place).columns column).null (draws_of generator place row column) (value generator unit place row column kind)) is

-- its unit of birth
pub field-born : (generator : Generator) (unit place ordinal column : ℕ) → (column_at (table_at generator.tables place).columns column).kind ≡ born_kind →
    field generator unit place (row_at generator place unit ordinal) column
    ≡ unless_null (column_at (table_at generator.tables place).columns column).null (draws_of generator place (row_at generator place unit ordinal) column)
    (Some (decimal (row_at generator place unit ordinal).born))
field-born generator unit place ordinal column is =
    let row : Row = row_at generator place unit ordinal in
    ap (λ (kind : KindLayout). unless_null (column_at (table_at generator.tables place).columns column).null (draws_of generator place row column) (value generator unit place row column kind)) is

-- its unit of the last change
pub field-changed : (generator : Generator) (unit place ordinal column : ℕ) → (column_at (table_at generator.tables place).columns column).kind ≡ changed_kind →
    field generator unit place (row_at generator place unit ordinal) column
    ≡ unless_null (column_at (table_at generator.tables place).columns column).null (draws_of generator place (row_at generator place unit ordinal) column)
    (Some (decimal (row_at generator place unit ordinal).changed))
field-changed generator unit place ordinal column is =
    let row : Row = row_at generator place unit ordinal in
    ap (λ (kind : KindLayout). unless_null (column_at (table_at generator.tables place).columns column).null (draws_of generator place row column) (value generator unit place row column kind)) is

-- the date of one of them
pub field-date : (generator : Generator) (unit place ordinal column : ℕ) (changed : Bool) (start : ℤ) (step : ℕ) → (column_at (table_at generator.tables place).columns column).kind ≡ unit_date_kind changed start step →
    field generator unit place (row_at generator place unit ordinal) column
    ≡ unless_null (column_at (table_at generator.tables place).columns column).null (draws_of generator place (row_at generator place unit ordinal) column)
    (Some (date_text (start +ℤ pos (step * (if changed then (row_at generator place unit ordinal).changed else (row_at generator place unit ordinal).born)))))
field-date generator unit place ordinal column changed start step is =
    let row : Row = row_at generator place unit ordinal in
    ap (λ (kind : KindLayout). unless_null (column_at (table_at generator.tables place).columns column).null (draws_of generator place row column) (value generator unit place row column kind)) is

-- the entry that it takes in turn
pub field-in_turn : (generator : Generator) (unit place ordinal column : ℕ) (words : WordList) → (column_at (table_at generator.tables place).columns column).kind ≡ list_kind words →
    field generator unit place (row_at generator place unit ordinal) column
    ≡ unless_null (column_at (table_at generator.tables place).columns column).null (draws_of generator place (row_at generator place unit ordinal) column)
    (Some (slice_index_or words.entries (ordinal % length words.entries) []))
field-in_turn generator unit place ordinal column words is =
    let row : Row = row_at generator place unit ordinal in
    ap (λ (kind : KindLayout). unless_null (column_at (table_at generator.tables place).columns column).null (draws_of generator place row column) (value generator unit place row column kind)) is

-- what is drawn for it
pub field-drawn : (generator : Generator) (unit place ordinal column : ℕ) (leaf : LeafLayout) → (column_at (table_at generator.tables place).columns column).kind ≡ leaf_kind leaf →
    field generator unit place (row_at generator place unit ordinal) column
    ≡ unless_null (column_at (table_at generator.tables place).columns column).null (draws_of generator place (row_at generator place unit ordinal) column)
    (leaf_value leaf (draws_of generator place (row_at generator place unit ordinal) column))
field-drawn generator unit place ordinal column leaf is =
    let row : Row = row_at generator place unit ordinal in
    ap (λ (kind : KindLayout). unless_null (column_at (table_at generator.tables place).columns column).null (draws_of generator place row column) (value generator unit place row column kind)) is

-- the unit that it is drawn at
pub draws_of-changed : (generator : Generator) (place column : ℕ) (row : Row) → (column_at (table_at generator.tables place).columns column).changes ≡ true →
    draws_of generator place row column ≡ generator.draw place column row.changed row.ordinal
draws_of-changed generator place column row changes =
    ap (λ (c : Bool). generator.draw place column (if c then row.changed else row.born) row.ordinal) changes

pub draws_of-born : (generator : Generator) (place column : ℕ) (row : Row) → (column_at (table_at generator.tables place).columns column).changes ≡ false →
    draws_of generator place row column ≡ generator.draw place column row.born row.ordinal
draws_of-born generator place column row changes =
    ap (λ (c : Bool). generator.draw place column (if c then row.changed else row.born) row.ordinal) changes

-- the key line is the key's field
pub key_line-field : (generator : Generator) (last unit place ordinal : ℕ) → unit ≤ last → ordinal < born_count (table_at generator.tables place).births unit →
    (column_at (table_at generator.tables place).columns 0).kind ≡ key_kind → (column_at (table_at generator.tables place).columns 0).null ≡ 0 →
    key_line_of generator last place ordinal
    ≡ field_text generator.delimiter (field generator unit place (row_at generator place unit ordinal) 0) ++ codes "\n"
key_line-field generator last unit place ordinal within born is never =
    ap (λ (key : ℕ). field_text generator.delimiter (Some (decimal key)) ++ codes "\n") (key_of-by generator last unit place ordinal within born)
    ∙ ap (λ (held : _). field_text generator.delimiter held ++ codes "\n") (sym (field-key generator unit place ordinal 0 is never))

-- how many digits a number of 64 bits has
pub length-decimal-le_20 : (n : ℕ) → n < 2 ^ 64 → length (decimal n) ≤ 20
length-decimal-le_20 n fits = length-decimal-le 20 n (omega arith) (omega arith) fits
