-- What two forms of a row hold in a column that doesn't move is the same, where they have one birth and the same parents with whom the
-- row is deleted.
use Rattle.std.proofs.Common.{◌≡◌, ◌<◌, ◌≤◌, ℕ, zero, suc, ℤ, pos, ◌-◌, ◌*◌, ◌+ℤ◌, ◌||◌, nat_lt, Bool, true, false, List, [], ◌∷◌, ◌++◌, All, decimal, flat_map, map, length, Option, Some, unwrap_or, refl, ap, ap₂, sym, subst, ◌∙◌, arith}
use Rattle.std.specs.Option.{option_and_then, option_map}
use Rattle.std.proofs.lemmas.Bool.{ltb-false, ltb-true, true≢false}
use Rattle.std.proofs.lemmas.List.{get_or_past}
use Rattle.std.proofs.lemmas.List.Elements.{All-head, All-nil, All-tail}
use Rattle.line_pages.specs.Padding.{padded}
use Rattle.cohort_sizes.specs.Births.{first_ordinal}
use Rattle.schema_facts.specs.Layout.{ColumnLayout, KindLayout, PartLayout, TableLayout, born_kind, case_kind, changed_kind, cited_part, column_at, key_kind, leaf_kind, literal_part, lookup_kind, list_kind, no_column, unit_date_kind, after_kind, sum_kind, product_kind, reference_kind, table_at, template_kind}
use Rattle.schema_plan.specs.Limits.{CitesStill, IsCascadeTo, IsKindInLimits, IsLookupInLimits, IsPart, IsStillPlace, IsStillPart, IsTableInLimits, is_moving_kind, moves}
use Rattle.schema_facts.specs.References.{Reference, reference_at, reference_of}
use Rattle.draw_values.specs.declared.leaf_numbers.Number.{Number}
use Rattle.draw_values.specs.Dates.{date_text}
use Rattle.draw_values.specs.Values.{Draws, branch_at, chosen, entry_in_turn, held_entry, leaf_day, leaf_number, leaf_value, number_text, unless_null}
use Rattle.life_intervals.specs.Generator.{Generator}
use Rattle.life_intervals.specs.Intervals.{row_at}
use Rattle.life_intervals.specs.Keys.{key_in_cohort, key_of}
use Rattle.life_intervals.specs.Rows.{Row}
use Rattle.row_lines.specs.Derived.{columns_before, day_by, day_in, in_parent, number_by, number_in, product_of, sum_of}
use Rattle.row_lines.specs.Lines.{field_alone, field_in_table, part_text, value_alone, value_in_table}
use Rattle.row_lines.specs.RowViews.{draws_of, parent_of_row}
use Rattle.row_lines.proofs.FieldLemmas.{draws_of-born}

-- the lookups of the table at a place are within their limits
abbrev pub AreLookupsInLimits : Generator → ℕ → Type 0
AreLookupsInLimits generator place =
    (column : ℕ) → column < length (table_at generator.tables place).columns →
    IsLookupInLimits generator.tables (table_at generator.tables place).columns column (column_at (table_at generator.tables place).columns column).kind

-- a column that doesn't move isn't drawn anew, and is of no kind that moves
pub still_parts : (changes unit : Bool) → (changes || unit) ≡ false → (changes ≡ false) × (unit ≡ false)
still_parts true unit h = absurd (cc)
still_parts false unit h = (refl, h)

module _ (generator : Generator) (place : ℕ) (row later : Row) (units : ℕ) (limits : IsTableInLimits units (table_at generator.tables place)) (lookups : AreLookupsInLimits generator place)
    (same_ordinal : later.ordinal ≡ row.ordinal) (same_born : later.born ≡ row.born) (same_parents : (column : ℕ) (reference : Reference) → reference_at (table_at generator.tables place) column ≡ Some reference → reference.nulls ≡ false → parent_of_row (table_at generator.tables place) later column ≡ parent_of_row (table_at generator.tables place) row column) where
  abbrev table : TableLayout
  table = table_at generator.tables place

  abbrev columns : List ColumnLayout
  columns = (table_at generator.tables place).columns

  -- it is drawn at the birth
  still_draws : (column : ℕ) → moves (column_at columns column) ≡ false → draws_of generator place later column ≡ draws_of generator place row column
  still_draws column still =
      let unchanged = (still_parts (column_at columns column).changes (is_moving_kind (column_at columns column).kind) still).0 in
      draws_of-born generator place column later unchanged
      ∙ ap₂ (λ (born ordinal : ℕ). generator.draw place column born ordinal) same_born same_ordinal
      ∙ sym (draws_of-born generator place column row unchanged)

  -- what it cites doesn't move, and what it looks up is within its limits; past the last column there is nothing of either
  still_cites : (column : ℕ) → moves (column_at columns column) ≡ false → CitesStill columns (column_at columns column).kind
  still_cites column still = by_place (nat_lt column (length columns)) refl
    where
      by_place : (test : Bool) → nat_lt column (length columns) ≡ test → CitesStill columns (column_at columns column).kind
      by_place true within = limits.still column (ltb-true column (length columns) within) (still_parts (column_at columns column).changes (is_moving_kind (column_at columns column).kind) still).0
      by_place false past = subst (λ (of : ColumnLayout). CitesStill columns of.kind) (sym (get_or_past columns column no_column (ltb-false column (length columns) past))) (All-nil (IsStillPart columns))

  looks_up : (column : ℕ) → IsLookupInLimits generator.tables columns column (column_at columns column).kind
  looks_up column = by_place (nat_lt column (length columns)) refl
    where
      by_place : (test : Bool) → nat_lt column (length columns) ≡ test → IsLookupInLimits generator.tables columns column (column_at columns column).kind
      by_place true within = lookups column (ltb-true column (length columns) within)
      by_place false past = subst (λ (of : ColumnLayout). IsLookupInLimits generator.tables columns column of.kind) (sym (get_or_past columns column no_column (ltb-false column (length columns) past))) tt

  -- the parent of a lookup, and what that holds
  still_parent : (via parent : ℕ) (kind : KindLayout) → (column_at columns via).kind ≡ kind → IsCascadeTo parent kind → parent_of_row table later via ≡ parent_of_row table row via
  still_parent via parent (reference_kind other window spread false drawn) is cascades =
      same_parents via (record { column = via; parent = other; window = window; spread = spread; nulls = false; drawn = drawn }) (ap (reference_of via) is) refl
  still_parent via parent _ is cascades = absurd cascades

  still_in_parent : {A : Type 0} (held : ℕ → Row → ℕ → Option A) (via parent name : ℕ) → IsCascadeTo parent (column_at columns via).kind →
      in_parent held generator place later via parent name ≡ in_parent held generator place row via parent name
  still_in_parent held via parent name cascades =
      ap (λ (found : Option ℕ). option_and_then (λ (ordinal : ℕ). held parent (row_at generator parent later.born ordinal) name) found) (still_parent via parent (column_at columns via).kind refl cascades)
      ∙ ap (λ (born : ℕ). option_and_then (λ (ordinal : ℕ). held parent (row_at generator parent born ordinal) name) (parent_of_row table row via)) same_born

  -- a day, by those of other columns that don't move
  still_day_by : (day : ℕ → Row → ℕ → Option ℤ) → ((column : ℕ) → moves (column_at columns column) ≡ false → day place later column ≡ day place row column) →
      (column : ℕ) (kind : KindLayout) → moves (column_at columns column) ≡ false → is_moving_kind kind ≡ false → CitesStill columns kind → IsLookupInLimits generator.tables columns column kind →
      day_by day generator place later column kind ≡ day_by day generator place row column kind
  still_day_by day same column key_kind still no_unit cites of = refl
  still_day_by day same column born_kind still no_unit cites of = refl
  still_day_by day same column changed_kind still no_unit cites of = refl
  still_day_by day same column (leaf_kind leaf) still no_unit cites of = ap (leaf_day leaf) (still_draws column still)
  still_day_by day same column (template_kind parts) still no_unit cites of = refl
  still_day_by day same column (case_kind on branches) still no_unit cites of = refl
  still_day_by day same column (reference_kind parent window spread nulls drawn) still no_unit cites of = refl
  still_day_by day same column (lookup_kind via parent name) still no_unit cites of = still_in_parent day via parent name of.reference
  still_day_by day same column (list_kind words) still no_unit cites of = refl
  still_day_by day same column (unit_date_kind true start step) still no_unit cites of = absurd (true≢false no_unit)
  still_day_by day same column (unit_date_kind false start step) still no_unit cites of = ap (λ (born : ℕ). Some (start +ℤ pos (step * born))) same_born
  still_day_by day same column (after_kind before lo hi) still no_unit cites of =
      ap (λ (draw : Draws). option_map (λ (earlier : ℤ). earlier +ℤ chosen lo hi 1 (draw 1)) (day place later before)) (still_draws column still)
      ∙ ap (option_map (λ (earlier : ℤ). earlier +ℤ chosen lo hi 1 (draws_of generator place row column 1))) (same before cites)
  still_day_by day same column (sum_kind operands) still no_unit cites of = refl
  still_day_by day same column (product_kind operands) still no_unit cites of = refl

  pub still_day : (n column : ℕ) → moves (column_at columns column) ≡ false → day_in n generator place later column ≡ day_in n generator place row column
  unfolding day_in
  still_day zero column still = refl
  still_day (suc n) column still =
      let of : ColumnLayout = column_at columns column in
      ap (λ (draw : Draws). unless_null of.null draw (day_by (day_in n generator) generator place later column of.kind)) (still_draws column still)
      ∙ ap (unless_null of.null (draws_of generator place row column))
      (still_day_by (day_in n generator) (still_day n) column of.kind still (still_parts of.changes (is_moving_kind of.kind) still).1 (still_cites column still) (looks_up column))

  -- a number
  still_operands : (number : ℕ → Row → ℕ → Option Number) → ((column : ℕ) → moves (column_at columns column) ≡ false → number place later column ≡ number place row column) →
      (operands : List ℕ) → All (IsStillPlace columns) operands → map (number place later) operands ≡ map (number place row) operands
  still_operands number same [] still = refl
  still_operands number same (operand ∷ operands) still =
      ap₂ (λ (first : Option Number) (rest : List (Option Number)). first ∷ rest) (same operand (All-head (IsStillPlace columns) operand operands still))
      (still_operands number same operands (All-tail (IsStillPlace columns) operand operands still))

  still_number_by : (number : ℕ → Row → ℕ → Option Number) → ((column : ℕ) → moves (column_at columns column) ≡ false → number place later column ≡ number place row column) →
      (column : ℕ) (kind : KindLayout) → moves (column_at columns column) ≡ false → CitesStill columns kind → IsLookupInLimits generator.tables columns column kind →
      number_by number generator place later column kind ≡ number_by number generator place row column kind
  still_number_by number same column key_kind still cites of = refl
  still_number_by number same column born_kind still cites of = refl
  still_number_by number same column changed_kind still cites of = refl
  still_number_by number same column (leaf_kind leaf) still cites of = ap (leaf_number leaf) (still_draws column still)
  still_number_by number same column (template_kind parts) still cites of = refl
  still_number_by number same column (case_kind on branches) still cites of = refl
  still_number_by number same column (reference_kind parent window spread nulls drawn) still cites of = refl
  still_number_by number same column (lookup_kind via parent name) still cites of = still_in_parent number via parent name of.reference
  still_number_by number same column (list_kind words) still cites of = refl
  still_number_by number same column (unit_date_kind changed start step) still cites of = refl
  still_number_by number same column (after_kind before lo hi) still cites of = refl
  still_number_by number same column (sum_kind operands) still cites of = ap sum_of (still_operands number same operands cites)
  still_number_by number same column (product_kind operands) still cites of = ap product_of (still_operands number same operands cites)

  pub still_number : (n column : ℕ) → moves (column_at columns column) ≡ false → number_in n generator place later column ≡ number_in n generator place row column
  unfolding number_in
  still_number zero column still = refl
  still_number (suc n) column still =
      let of : ColumnLayout = column_at columns column in
      ap (λ (draw : Draws). unless_null of.null draw (number_by (number_in n generator) generator place later column of.kind)) (still_draws column still)
      ∙ ap (unless_null of.null (draws_of generator place row column))
      (still_number_by (number_in n generator) (still_number n) column of.kind still (still_cites column still) (looks_up column))

  -- a field that puts none together
  still_alone : (column : ℕ) (kind : KindLayout) → (column_at columns column).kind ≡ kind → moves (column_at columns column) ≡ false →
      is_moving_kind kind ≡ false → CitesStill columns kind →
      value_alone generator place later column kind ≡ value_alone generator place row column kind
  still_alone column key_kind is still no_unit cites =
      ap₂ (λ (born ordinal : ℕ). Some (decimal (key_in_cohort generator place born (ordinal - first_ordinal table.births born)))) same_born same_ordinal
  still_alone column born_kind is still no_unit cites = ap (λ (born : ℕ). Some (decimal born)) same_born
  still_alone column changed_kind is still no_unit cites = absurd (true≢false no_unit)
  still_alone column (leaf_kind leaf) is still no_unit cites = ap (leaf_value leaf) (still_draws column still)
  still_alone column (template_kind parts) is still no_unit cites = refl
  still_alone column (case_kind on branches) is still no_unit cites =
      ap (λ (draw : Draws). option_and_then (λ entry. leaf_value (branch_at branches entry) draw) (held_entry (column_at columns on) (draws_of generator place later on))) (still_draws column still)
      ∙ ap (λ (draw : Draws). option_and_then (λ entry. leaf_value (branch_at branches entry) (draws_of generator place row column)) (held_entry (column_at columns on) draw)) (still_draws on cites)
  still_alone column (reference_kind parent window spread nulls drawn) is still no_unit cites =
      ap₂ (λ (born : ℕ) (held : Option ℕ). option_map (λ (ordinal : ℕ). decimal (key_of generator parent born ordinal)) held) same_born
      (same_parents column (record { column = column; parent = parent; window = window; spread = spread; nulls = nulls; drawn = drawn }) (ap (reference_of column) is) no_unit)
  still_alone column (lookup_kind via parent name) is still no_unit cites = refl
  still_alone column (list_kind words) is still no_unit cites = ap (λ (ordinal : ℕ). Some (entry_in_turn words ordinal)) same_ordinal
  still_alone column (after_kind before lo hi) is still no_unit cites =
      ap (option_map date_text)
      (still_day_by (day_in (columns_before place column) generator) (still_day (columns_before place column)) column (after_kind before lo hi) still no_unit cites tt)
  still_alone column (sum_kind operands) is still no_unit cites =
      ap (option_map number_text)
      (still_number_by (number_in (columns_before place column) generator) (still_number (columns_before place column)) column (sum_kind operands) still cites tt)
  still_alone column (product_kind operands) is still no_unit cites =
      ap (option_map number_text)
      (still_number_by (number_in (columns_before place column) generator) (still_number (columns_before place column)) column (product_kind operands) still cites tt)
  still_alone column (unit_date_kind true start step) is still no_unit cites = absurd (true≢false no_unit)
  still_alone column (unit_date_kind false start step) is still no_unit cites = ap (λ (born : ℕ). Some (date_text (start +ℤ pos (step * born)))) same_born

  still_field_alone : (column : ℕ) → column < length columns → moves (column_at columns column) ≡ false →
      field_alone generator place later column ≡ field_alone generator place row column
  still_field_alone column within still =
      let of : ColumnLayout = column_at columns column in
      let parts = still_parts of.changes (is_moving_kind of.kind) still in
      ap (λ (draw : Draws). unless_null of.null draw (value_alone generator place later column of.kind)) (still_draws column still)
      ∙ ap (unless_null of.null (draws_of generator place row column)) (still_alone column of.kind refl still parts.1 (limits.still column within parts.0))

  -- a template
  still_part : (bound : ℕ) → bound ≤ length columns → (part : PartLayout) → IsPart columns bound part → IsStillPart columns part →
      part_text generator place later part ≡ part_text generator place row part
  still_part bound within (literal_part bytes) is still = refl
  still_part bound within (cited_part column width) is still =
      ap (λ (held : Option (List ℕ)). unwrap_or (option_map (padded width) held) []) (still_field_alone column (omega (arith, is.0, within)) still)

  still_template : (bound : ℕ) → bound ≤ length columns → (parts : List PartLayout) → All (IsPart columns bound) parts →
      All (IsStillPart columns) parts →
      flat_map (part_text generator place later) parts ≡ flat_map (part_text generator place row) parts
  still_template bound within [] are still = refl
  still_template bound within (part ∷ parts) are still =
      ap₂ (λ (text rest : List ℕ). text ++ rest)
      (still_part bound within part (All-head (IsPart columns bound) part parts are) (All-head (IsStillPart columns) part parts still))
      (still_template bound within parts (All-tail (IsPart columns bound) part parts are) (All-tail (IsStillPart columns) part parts still))

  still_in_table : (column : ℕ) (kind : KindLayout) → (column_at columns column).kind ≡ kind → column ≤ length columns →
      moves (column_at columns column) ≡ false → is_moving_kind kind ≡ false → CitesStill columns kind → IsKindInLimits columns column kind →
      value_in_table generator place later column kind ≡ value_in_table generator place row column kind
  still_in_table column (template_kind parts) is within still no_unit cites of =
      ap (λ (text : List ℕ). Some text) (still_template column within parts of.each cites)
  still_in_table column key_kind is within still no_unit cites of = still_alone column key_kind is still no_unit cites
  still_in_table column born_kind is within still no_unit cites of = still_alone column born_kind is still no_unit cites
  still_in_table column changed_kind is within still no_unit cites of = absurd (true≢false no_unit)
  still_in_table column (leaf_kind leaf) is within still no_unit cites of = still_alone column (leaf_kind leaf) is still no_unit cites
  still_in_table column (case_kind on branches) is within still no_unit cites of = still_alone column (case_kind on branches) is still no_unit cites
  still_in_table column (reference_kind parent window spread nulls drawn) is within still no_unit cites of =
      still_alone column (reference_kind parent window spread nulls drawn) is still no_unit cites
  still_in_table column (lookup_kind via parent name) is within still no_unit cites of = refl
  still_in_table column (list_kind words) is within still no_unit cites of = still_alone column (list_kind words) is still no_unit cites
  still_in_table column (unit_date_kind changed start step) is within still no_unit cites of =
      still_alone column (unit_date_kind changed start step) is still no_unit cites
  still_in_table column (after_kind before lo hi) is within still no_unit cites of = still_alone column (after_kind before lo hi) is still no_unit cites
  still_in_table column (sum_kind operands) is within still no_unit cites of = still_alone column (sum_kind operands) is still no_unit cites
  still_in_table column (product_kind operands) is within still no_unit cites of = still_alone column (product_kind operands) is still no_unit cites

  pub still_field : (column : ℕ) → column < length columns → moves (column_at columns column) ≡ false →
      field_in_table generator place later column ≡ field_in_table generator place row column
  still_field column within still =
      let of : ColumnLayout = column_at columns column in
      let parts = still_parts of.changes (is_moving_kind of.kind) still in
      ap (λ (draw : Draws). unless_null of.null draw (value_in_table generator place later column of.kind)) (still_draws column still)
      ∙ ap (unless_null of.null (draws_of generator place row column))
      (still_in_table column of.kind refl (omega (arith, within)) still parts.1 (limits.still column within parts.0) (limits.kinds column within))

-- so it is the same whenever the row changed last
pub still_field-changed : (generator : Generator) (place : ℕ) (row : Row) (changed units : ℕ) →
    IsTableInLimits units (table_at generator.tables place) → AreLookupsInLimits generator place →
    (column : ℕ) → column < length (table_at generator.tables place).columns →
    moves (column_at (table_at generator.tables place).columns column) ≡ false →
    field_in_table generator place (record row { changed = changed }) column ≡ field_in_table generator place row column
still_field-changed generator place row changed units limits lookups =
    still_field generator place row (record row { changed = changed }) units limits lookups refl refl (λ column reference is cascades. refl)

pub still_day-changed : (generator : Generator) (place : ℕ) (row : Row) (changed units : ℕ) →
    IsTableInLimits units (table_at generator.tables place) → AreLookupsInLimits generator place →
    (n column : ℕ) → moves (column_at (table_at generator.tables place).columns column) ≡ false →
    day_in n generator place (record row { changed = changed }) column ≡ day_in n generator place row column
still_day-changed generator place row changed units limits lookups =
    still_day generator place row (record row { changed = changed }) units limits lookups refl refl (λ column reference is cascades. refl)

pub still_number-changed : (generator : Generator) (place : ℕ) (row : Row) (changed units : ℕ) →
    IsTableInLimits units (table_at generator.tables place) → AreLookupsInLimits generator place →
    (n column : ℕ) → moves (column_at (table_at generator.tables place).columns column) ≡ false →
    number_in n generator place (record row { changed = changed }) column ≡ number_in n generator place row column
still_number-changed generator place row changed units limits lookups =
    still_number generator place row (record row { changed = changed }) units limits lookups refl refl (λ column reference is cascades. refl)
