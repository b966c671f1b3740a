-- The lines of a detail table: for each row of its parent so many, numbered from 1, in COPY text form (PostgreSQL's manual, "COPY").
use Rattle.std.specs.Prelude.{ℕ, zero, suc, ℤ, ◌+◌, ◌-◌, ◌*◌, ◌%◌, ◌+ℤ◌, List, [], ◌∷◌, ◌++◌, Option, Some, None, codes, decimal, flat_map, length, map, unwrap_or}
use Rattle.std.specs.List.{range_with_len}
use Rattle.std.specs.Option.{option_map}
use Rattle.philox_seeds.specs.SeedTree.{field_draw}
use Rattle.row_text.specs.Lines.{line_text}
use Rattle.schema_facts.specs.Counts.{count}
use Rattle.schema_facts.specs.Dictionaries.{Project}
use Rattle.schema_facts.specs.Layout.{ColumnLayout, KindLayout, after_kind, column_at, column_layout, leaf_kind, lookup_kind, product_kind, sum_kind, table_at}
use Rattle.schema_plan.specs.Planned.{table_named}
use Rattle.draw_values.specs.declared.leaf_numbers.Number.{Number}
use Rattle.draw_values.specs.Dates.{date_text}
use Rattle.draw_values.specs.Values.{RowDraws, chosen, draw_unit, leaf_day, leaf_number, leaf_value, number_text, unless_null}
use Rattle.life_intervals.specs.Generator.{Generator, generator_of}
use Rattle.life_intervals.specs.Keys.{key_in_cohort}
use Rattle.life_intervals.specs.Rows.{Row, index_in_cohort}
use Rattle.life_intervals.specs.Simulation.{rows_at}
use Rattle.life_intervals.specs.Streams.{deleted, inserted, updated}
use Rattle.row_lines.specs.Derived.{day_shown, number_shown, product_of, sum_of}
use Rattle.row_lines.specs.Lines.{field_in_table}
use Rattle.row_lines.specs.RowViews.{at_row}
use Rattle.detail_plan.specs.declared.detail.Detail.{Detail}
use Rattle.detail_plan.specs.Beside.{columns_beside}
use Rattle.detail_plan.specs.Kept.{Kept}

-- the place in the schema of the table on whose rows the lines hang
abbrev pub parent_place : Project → Detail → ℕ
parent_place plan detail = unwrap_or (table_named plan.schema detail.parent) 0

-- what lines take from a detail table: the seed that it declares, the fewest and the most lines of a row, and its columns, as many as are its
-- own. After these stands the reference to the parent
pub record DetailLayout : Type 0 where
  pub seed : ℕ
  pub least : ℕ
  pub most : ℕ
  pub columns : List ColumnLayout
  pub own : ℕ

abbrev pub columns_of : Project → Kept → List ColumnLayout
columns_of plan kept =
    map (column_layout kept.lists plan.schema.tables (columns_beside kept.detail)) (columns_beside kept.detail)

abbrev pub layout_beside : Project → Kept → DetailLayout
layout_beside plan kept = record {
  seed = count kept.detail.seed;
  least = count kept.detail.lo;
  most = count kept.detail.hi;
  columns = columns_of plan kept;
  own = length kept.detail.columns;
}

-- ---- how many lines

-- the column that stands for the number of lines of a row
abbrev pub count_column : ℕ
count_column = 32

-- how many lines a row has: from the fewest to the most, by draw 1 of a seed at its birth, so that the number never changes. All seeds of a
-- detail table are those of table 0 below the seed that it declares
abbrev pub lines_of_draw : DetailLayout → ℕ → ℕ
lines_of_draw detail draw = detail.least + draw % (detail.most - detail.least + 1)

abbrev pub line_count : DetailLayout → Row → ℕ
line_count detail row = lines_of_draw detail (field_draw detail.seed 0 count_column row.born row.ordinal 1)

-- ---- fields

-- the line of a number, from 1 to at most 64, of a row of the parent
pub record Line : Type 0 where
  pub generator : Generator
  pub detail : DetailLayout
  pub row : Row
  pub number : ℕ

-- of the line of a number of a row's ordinal: the ordinal that its fields are drawn by
abbrev pub line_ordinal : ℕ → ℕ → ℕ
line_ordinal ordinal number = 64 * ordinal + (number - 1)

-- the column at a place
abbrev pub column_of : Line → ℕ → ColumnLayout
column_of line column = column_at line.detail.columns column

-- the draws of its fields: at the unit of the row's last change in a column that changes, at that of its birth in any other
abbrev pub draws_of_line : Line → RowDraws
draws_of_line line column =
    field_draw line.detail.seed 0 column (draw_unit (column_of line column) (at_row line.row)) (line_ordinal line.row.ordinal line.number)

-- what the field of the column at a place is, where that isn't null by its own draw
abbrev pub unless_drawn_null : {A : Type 0} → Line → ℕ → Option A → Option A
unless_drawn_null line column held = unless_null (column_of line column).null (draws_of_line line column) held

-- the day that the line shows in a column of this kind, where that isn't null by its own draw, by the days that other columns of the line show.
-- A column of the parent shows what the row shows there. None where the column isn't dated
abbrev pub line_day_by : (ℕ → Option ℤ) → Line → ℕ → KindLayout → Option ℤ
line_day_by day line column (leaf_kind leaf) = leaf_day leaf (draws_of_line line column)
line_day_by day line column (lookup_kind via parent name) = day_shown line.generator parent line.row name
line_day_by day line column (after_kind of lo hi) =
    option_map (λ earlier. earlier +ℤ chosen lo hi 1 (draws_of_line line column 1)) (day of)
line_day_by day line column kind = None

-- the same of a column of any kind, None where it is null; it is looked for through so many columns
unfoldable pub line_day_in : ℕ → Line → ℕ → Option ℤ
line_day_in zero line column = None
line_day_in (suc n) line column =
    unless_drawn_null line column (line_day_by (line_day_in n line) line column (column_of line column).kind)

-- the number that the line holds in a column of this kind, and in a column of any kind
abbrev pub line_number_by : (ℕ → Option Number) → Line → ℕ → KindLayout → Option Number
line_number_by number line column (leaf_kind leaf) = leaf_number leaf (draws_of_line line column)
line_number_by number line column (lookup_kind via parent name) = number_shown line.generator parent line.row name
line_number_by number line column (sum_kind of) = sum_of (map number of)
line_number_by number line column (product_kind of) = product_of (map number of)
line_number_by number line column kind = None

unfoldable pub line_number_in : ℕ → Line → ℕ → Option Number
line_number_in zero line column = None
line_number_in (suc n) line column =
    unless_drawn_null line column (line_number_by (line_number_in n line) line column (column_of line column).kind)

-- what the line holds in a column of this kind, where that isn't null by its own draw: what is drawn, what the parent's row holds, or what is
-- worked out from earlier columns. None where one of those is null, or the parent's field
abbrev pub line_value : Line → ℕ → KindLayout → Option (List ℕ)
line_value line column (leaf_kind leaf) = leaf_value leaf (draws_of_line line column)
line_value line column (lookup_kind via parent name) = field_in_table line.generator parent line.row name
line_value line column (after_kind of lo hi) =
    option_map date_text (line_day_by (line_day_in column line) line column (after_kind of lo hi))
line_value line column (sum_kind of) = option_map number_text (line_number_by (line_number_in column line) line column (sum_kind of))
line_value line column (product_kind of) =
    option_map number_text (line_number_by (line_number_in column line) line column (product_kind of))
line_value line column kind = None

-- what the line holds in the column at a place, None where it is null
abbrev pub line_field : Line → ℕ → Option (List ℕ)
line_field line column = unless_drawn_null line column (line_value line column (column_of line column).kind)

-- ---- lines

-- the key of a row of the table at a place
abbrev pub key_of_row : Generator → ℕ → Row → ℕ
key_of_row generator place row = key_in_cohort generator place row.born (index_in_cohort (table_at generator.tables place) row)

-- the key of a line: that of its row, and its number
abbrev pub key_fields : Generator → ℕ → Row → ℕ → List (Option (List ℕ))
key_fields generator place row number = Some (decimal (key_of_row generator place row)) ∷ Some (decimal number) ∷ []

-- what a line holds in its columns
abbrev pub value_fields : Line → List (Option (List ℕ))
value_fields line = map (line_field line) (range_with_len 0 line.detail.own)

-- fields as they are written in a line, with its line feed
abbrev pub line_by : ℕ → List (Option (List ℕ)) → List ℕ
line_by delimiter fields = line_text delimiter fields ++ codes "\n"

-- the line of a number of a row of the table at a place, and that line with its key alone
abbrev pub detail_line : Generator → ℕ → DetailLayout → Row → ℕ → List ℕ
detail_line generator place detail row number =
    line_by generator.delimiter
    (key_fields generator place row number ++ value_fields (record { generator = generator; detail = detail; row = row; number = number }))

abbrev pub key_line : Generator → ℕ → Row → ℕ → List ℕ
key_line generator place row number = line_by generator.delimiter (key_fields generator place row number)

-- the numbers of a row's lines
abbrev pub line_numbers : DetailLayout → Row → List ℕ
line_numbers detail row = range_with_len 1 (line_count detail row)

-- all lines of a row, in order, and the same with their keys alone
unfoldable pub lines_of_row : Generator → ℕ → DetailLayout → Row → List ℕ
lines_of_row generator place detail row = flat_map (detail_line generator place detail row) (line_numbers detail row)

unfoldable pub key_lines_of_row : Generator → ℕ → DetailLayout → Row → List ℕ
key_lines_of_row generator place detail row = flat_map (key_line generator place row) (line_numbers detail row)

-- ---- texts of a detail table over a plan

-- all lines of a row, whole and with their keys alone
abbrev pub lines_over : Project → Kept → Row → List ℕ
lines_over plan kept row = lines_of_row (generator_of plan) (parent_place plan kept.detail) (layout_beside plan kept) row

abbrev pub key_lines_over : Project → Kept → Row → List ℕ
key_lines_over plan kept row = key_lines_of_row (generator_of plan) (parent_place plan kept.detail) (layout_beside plan kept) row

-- at a unit: the lines of the rows that its parent holds
abbrev pub detail_text : Project → Kept → ℕ → List ℕ
detail_text plan kept unit =
    flat_map (lines_over plan kept) (rows_at (generator_of plan) (parent_place plan kept.detail) unit)

-- of what a unit deletes from it, with their keys alone; of what it updates, and of what it inserts
abbrev pub detail_deleted_text : Project → Kept → ℕ → List ℕ
detail_deleted_text plan kept unit =
    flat_map (key_lines_over plan kept) (deleted (generator_of plan) (parent_place plan kept.detail) unit)

abbrev pub detail_updated_text : Project → Kept → ℕ → List ℕ
detail_updated_text plan kept unit =
    flat_map (lines_over plan kept) (updated (generator_of plan) (parent_place plan kept.detail) unit)

abbrev pub detail_inserted_text : Project → Kept → ℕ → List ℕ
detail_inserted_text plan kept unit =
    flat_map (lines_over plan kept) (inserted (generator_of plan) (parent_place plan kept.detail) unit)
