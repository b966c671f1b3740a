-- No line tells how many units are left to the end of its row's life or to the row's next update.
use Rattle.std.proofs.Common.{◌≡◌, ◌+ℤ◌, ℕ, ℤ, zero, suc, List, [], ◌∷◌, map, Option, refl, ap, ap₂}
use Rattle.std.specs.List.{range_with_len}
use Rattle.std.specs.Option.{option_map}
use Rattle.schema_facts.specs.Layout.{KindLayout, after_kind, born_kind, case_kind, changed_kind, key_kind, leaf_kind, list_kind, lookup_kind, product_kind, reference_kind, sum_kind, template_kind, unit_date_kind}
use Rattle.draw_values.specs.declared.leaf_numbers.Number.{Number}
use Rattle.draw_values.specs.Dates.{date_text}
use Rattle.draw_values.specs.Values.{chosen, number_text}
use Rattle.row_lines.specs.Derived.{columns_before, product_of, sum_of}
use Rattle.row_lines.proofs.RowFormLemmas.{day-form as parent_day-form, field-form as parent_field-form, number-form as parent_number-form}
use Rattle.detail_lines.specs.Lines.{Line, column_of, draws_of_line, line_day_by, line_day_in, line_field, line_number_by, line_number_in, line_value, unless_drawn_null, value_fields}

module _ (line : Line) (left wait : Option ℕ) where
  -- the line, of the row with other numbers of units left
  abbrev other : Line
  other = record line { row = record line.row { left = left; wait = wait } }

  day-by : (day earlier : ℕ → Option ℤ) → ((column : ℕ) → day column ≡ earlier column) → (column : ℕ) (kind : KindLayout) → line_day_by day other column kind ≡ line_day_by earlier line column kind
  day-by day earlier same column (after_kind of lo hi) = ap (option_map (λ (from : ℤ). from +ℤ chosen lo hi 1 (draws_of_line line column 1))) (same of)
  day-by day earlier same column (lookup_kind via parent name) = parent_day-form line.generator parent line.row left wait (suc (columns_before parent name)) name
  day-by day earlier same column key_kind = refl
  day-by day earlier same column born_kind = refl
  day-by day earlier same column changed_kind = refl
  day-by day earlier same column (leaf_kind leaf) = refl
  day-by day earlier same column (template_kind parts) = refl
  day-by day earlier same column (case_kind on branches) = refl
  day-by day earlier same column (reference_kind parent window spread nulls drawn) = refl
  day-by day earlier same column (list_kind words) = refl
  day-by day earlier same column (unit_date_kind changed start step) = refl
  day-by day earlier same column (sum_kind of) = refl
  day-by day earlier same column (product_kind of) = refl

  day-form : (n column : ℕ) → line_day_in n other column ≡ line_day_in n line column
  unfolding line_day_in
  day-form zero column = refl
  day-form (suc n) column =
      ap (unless_drawn_null line column) (day-by (line_day_in n other) (line_day_in n line) (day-form n) column (column_of line column).kind)

  operands-form : (number earlier : ℕ → Option Number) → ((column : ℕ) → number column ≡ earlier column) → (of : List ℕ) → map number of ≡ map earlier of
  operands-form number earlier same [] = refl
  operands-form number earlier same (operand ∷ of) = ap₂ (λ (first : Option Number) (rest : List (Option Number)). first ∷ rest) (same operand) (operands-form number earlier same of)

  number-by : (number earlier : ℕ → Option Number) → ((column : ℕ) → number column ≡ earlier column) → (column : ℕ) (kind : KindLayout) →
      line_number_by number other column kind ≡ line_number_by earlier line column kind
  number-by number earlier same column (sum_kind of) = ap sum_of (operands-form number earlier same of)
  number-by number earlier same column (product_kind of) = ap product_of (operands-form number earlier same of)
  number-by number earlier same column (lookup_kind via parent name) = parent_number-form line.generator parent line.row left wait (suc (columns_before parent name)) name
  number-by number earlier same column key_kind = refl
  number-by number earlier same column born_kind = refl
  number-by number earlier same column changed_kind = refl
  number-by number earlier same column (leaf_kind leaf) = refl
  number-by number earlier same column (template_kind parts) = refl
  number-by number earlier same column (case_kind on branches) = refl
  number-by number earlier same column (reference_kind parent window spread nulls drawn) = refl
  number-by number earlier same column (list_kind words) = refl
  number-by number earlier same column (unit_date_kind changed start step) = refl
  number-by number earlier same column (after_kind of lo hi) = refl

  number-form : (n column : ℕ) → line_number_in n other column ≡ line_number_in n line column
  unfolding line_number_in
  number-form zero column = refl
  number-form (suc n) column =
      ap (unless_drawn_null line column) (number-by (line_number_in n other) (line_number_in n line) (number-form n) column (column_of line column).kind)

  value-form : (column : ℕ) (kind : KindLayout) → line_value other column kind ≡ line_value line column kind
  value-form column (after_kind of lo hi) = ap (option_map date_text) (day-by (line_day_in column other) (line_day_in column line) (day-form column) column (after_kind of lo hi))
  value-form column (sum_kind of) = ap (option_map number_text) (number-by (line_number_in column other) (line_number_in column line) (number-form column) column (sum_kind of))
  value-form column (product_kind of) = ap (option_map number_text) (number-by (line_number_in column other) (line_number_in column line) (number-form column) column (product_kind of))
  value-form column (lookup_kind via parent name) = parent_field-form line.generator parent line.row left wait name
  value-form column key_kind = refl
  value-form column born_kind = refl
  value-form column changed_kind = refl
  value-form column (leaf_kind leaf) = refl
  value-form column (template_kind parts) = refl
  value-form column (case_kind on branches) = refl
  value-form column (reference_kind parent window spread nulls drawn) = refl
  value-form column (list_kind words) = refl
  value-form column (unit_date_kind changed start step) = refl

  field-form : (column : ℕ) → line_field other column ≡ line_field line column
  field-form column = ap (unless_drawn_null line column) (value-form column (column_of line column).kind)

  fields-form : (columns : List ℕ) → map (line_field other) columns ≡ map (line_field line) columns
  fields-form [] = refl
  fields-form (column ∷ columns) = ap₂ (λ (first : Option (List ℕ)) (rest : List (Option (List ℕ))). first ∷ rest) (field-form column) (fields-form columns)

  -- so all its fields are the same
  pub value_fields-form : value_fields other ≡ value_fields line
  value_fields-form = fields-form (range_with_len 0 line.detail.own)
