-- No field tells how many units are left to the end of a row's life or to its next update.
use Rattle.std.proofs.Common.{◌≡◌, ◌+ℤ◌, ℕ, ℤ, zero, suc, List, [], ◌∷◌, ◌++◌, flat_map, map, Option, Some, unwrap_or, refl, ap, ap₂}
use Rattle.std.specs.Option.{option_map}
use Rattle.line_pages.specs.Padding.{padded}
use Rattle.schema_facts.specs.Layout.{ColumnLayout, KindLayout, PartLayout, after_kind, born_kind, case_kind, changed_kind, cited_part, column_at, key_kind, leaf_kind, list_kind, literal_part, lookup_kind, product_kind, reference_kind, sum_kind, table_at, template_kind, unit_date_kind}
use Rattle.draw_values.specs.declared.leaf_numbers.Number.{Number}
use Rattle.draw_values.specs.Dates.{date_text}
use Rattle.draw_values.specs.Values.{chosen, number_text, unless_null}
use Rattle.life_intervals.specs.Generator.{Generator}
use Rattle.life_intervals.specs.Rows.{Row}
use Rattle.row_lines.specs.Derived.{columns_before, day_by, day_in, number_by, number_in, product_of, sum_of}
use Rattle.row_lines.specs.Lines.{field_alone, field_in_table, part_text, value_alone, value_in_table}
use Rattle.row_lines.specs.RowViews.{draws_of}

module _ (generator : Generator) (place : ℕ) (row : Row) (left wait : Option ℕ) where
  -- the row, with other numbers of units left
  abbrev other : Row
  other = record row { left = left; wait = wait }

  day-by : (day : ℕ → Row → ℕ → Option ℤ) → ((column : ℕ) → day place other column ≡ day place row column) → (column : ℕ) (kind : KindLayout) → day_by day generator place other column kind ≡ day_by day generator place row column kind
  day-by day same column (after_kind of lo hi) = ap (option_map (λ (earlier : ℤ). earlier +ℤ chosen lo hi 1 (draws_of generator place row column 1))) (same of)
  day-by day same column key_kind = refl
  day-by day same column born_kind = refl
  day-by day same column changed_kind = refl
  day-by day same column (leaf_kind leaf) = refl
  day-by day same column (template_kind parts) = refl
  day-by day same column (case_kind on branches) = refl
  day-by day same column (reference_kind parent window spread nulls drawn) = refl
  day-by day same column (lookup_kind via parent name) = refl
  day-by day same column (list_kind words) = refl
  day-by day same column (unit_date_kind changed start step) = refl
  day-by day same column (sum_kind of) = refl
  day-by day same column (product_kind of) = refl

  pub day-form : (n column : ℕ) → day_in n generator place other column ≡ day_in n generator place row column
  unfolding day_in
  day-form zero column = refl
  day-form (suc n) column =
      let own : ColumnLayout = column_at (table_at generator.tables place).columns column in
      ap (unless_null own.null (draws_of generator place row column)) (day-by (day_in n generator) (day-form n) column own.kind)

  operands-form : (number : ℕ → Row → ℕ → Option Number) → ((column : ℕ) → number place other column ≡ number place row column) → (of : List ℕ) → map (number place other) of ≡ map (number place row) of
  operands-form number same [] = refl
  operands-form number same (operand ∷ of) = ap₂ (λ (first : Option Number) (rest : List (Option Number)). first ∷ rest) (same operand) (operands-form number same of)

  number-by : (number : ℕ → Row → ℕ → Option Number) → ((column : ℕ) → number place other column ≡ number place row column) → (column : ℕ) (kind : KindLayout) →
      number_by number generator place other column kind ≡ number_by number generator place row column kind
  number-by number same column (sum_kind of) = ap sum_of (operands-form number same of)
  number-by number same column (product_kind of) = ap product_of (operands-form number same of)
  number-by number same column key_kind = refl
  number-by number same column born_kind = refl
  number-by number same column changed_kind = refl
  number-by number same column (leaf_kind leaf) = refl
  number-by number same column (template_kind parts) = refl
  number-by number same column (case_kind on branches) = refl
  number-by number same column (reference_kind parent window spread nulls drawn) = refl
  number-by number same column (lookup_kind via parent name) = refl
  number-by number same column (list_kind words) = refl
  number-by number same column (unit_date_kind changed start step) = refl
  number-by number same column (after_kind of lo hi) = refl

  pub number-form : (n column : ℕ) → number_in n generator place other column ≡ number_in n generator place row column
  unfolding number_in
  number-form zero column = refl
  number-form (suc n) column =
      let own : ColumnLayout = column_at (table_at generator.tables place).columns column in
      ap (unless_null own.null (draws_of generator place row column)) (number-by (number_in n generator) (number-form n) column own.kind)

  value-form : (column : ℕ) (kind : KindLayout) → value_alone generator place other column kind ≡ value_alone generator place row column kind
  value-form column (after_kind of lo hi) =
      let n : ℕ = columns_before place column in
      ap (option_map date_text) (day-by (day_in n generator) (day-form n) column (after_kind of lo hi))
  value-form column (sum_kind of) =
      let n : ℕ = columns_before place column in
      ap (option_map number_text) (number-by (number_in n generator) (number-form n) column (sum_kind of))
  value-form column (product_kind of) =
      let n : ℕ = columns_before place column in
      ap (option_map number_text) (number-by (number_in n generator) (number-form n) column (product_kind of))
  value-form column key_kind = refl
  value-form column born_kind = refl
  value-form column changed_kind = refl
  value-form column (leaf_kind leaf) = refl
  value-form column (template_kind parts) = refl
  value-form column (case_kind on branches) = refl
  value-form column (reference_kind parent window spread nulls drawn) = refl
  value-form column (lookup_kind via parent name) = refl
  value-form column (list_kind words) = refl
  value-form column (unit_date_kind changed start step) = refl

  alone-form : (column : ℕ) → field_alone generator place other column ≡ field_alone generator place row column
  alone-form column =
      let own : ColumnLayout = column_at (table_at generator.tables place).columns column in
      ap (unless_null own.null (draws_of generator place row column)) (value-form column own.kind)

  part-form : (part : PartLayout) → part_text generator place other part ≡ part_text generator place row part
  part-form (literal_part bytes) = refl
  part-form (cited_part column width) = ap (λ (held : Option (List ℕ)). unwrap_or (option_map (padded width) held) []) (alone-form column)

  parts-form : (parts : List PartLayout) → flat_map (part_text generator place other) parts ≡ flat_map (part_text generator place row) parts
  parts-form [] = refl
  parts-form (part ∷ parts) = ap₂ (λ (text rest : List ℕ). text ++ rest) (part-form part) (parts-form parts)

  in_table-form : (column : ℕ) (kind : KindLayout) → value_in_table generator place other column kind ≡ value_in_table generator place row column kind
  in_table-form column (template_kind parts) = ap (λ (text : List ℕ). Some text) (parts-form parts)
  in_table-form column key_kind = refl
  in_table-form column born_kind = refl
  in_table-form column changed_kind = refl
  in_table-form column (leaf_kind leaf) = refl
  in_table-form column (case_kind on branches) = refl
  in_table-form column (reference_kind parent window spread nulls drawn) = refl
  in_table-form column (lookup_kind via parent name) = refl
  in_table-form column (list_kind words) = refl
  in_table-form column (unit_date_kind changed start step) = refl
  in_table-form column (after_kind of lo hi) = value-form column (after_kind of lo hi)
  in_table-form column (sum_kind of) = value-form column (sum_kind of)
  in_table-form column (product_kind of) = value-form column (product_kind of)

  pub field-form : (column : ℕ) → field_in_table generator place other column ≡ field_in_table generator place row column
  field-form column =
      let own : ColumnLayout = column_at (table_at generator.tables place).columns column in
      ap (unless_null own.null (draws_of generator place row column)) (in_table-form column own.kind)
