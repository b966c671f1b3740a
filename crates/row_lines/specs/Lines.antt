-- The text of a table: a line for each row, in COPY text form (PostgreSQL's manual, "COPY").
use Rattle.std.specs.Prelude.{ℕ, ◌==◌, List, [], ◌++◌, filter, find, map, flat_map, length, Option, Some, codes, decimal, if◌then◌else◌, unwrap_or}
use Rattle.std.specs.List.{join_with_byte, range_with_len}
use Rattle.std.specs.Option.{option_and_then, option_map}
use Rattle.line_pages.specs.Padding.{padded}
use Rattle.row_text.specs.Fields.{field_text}
use Rattle.cohort_sizes.specs.Births.{cohort_size, first_ordinal}
use Rattle.schema_facts.specs.Dictionaries.{Project}
use Rattle.schema_facts.specs.Layout.{PartLayout, literal_part, cited_part, KindLayout, key_kind, template_kind, reference_kind, lookup_kind, after_kind, sum_kind, product_kind, table_at, column_at}
use Rattle.draw_values.specs.Dates.{date_text}
use Rattle.draw_values.specs.Values.{number_text, own_value, unless_null}
use Rattle.life_intervals.specs.Generator.{Generator, generator_of, last_unit}
use Rattle.life_intervals.specs.Intervals.{is_live, row_at}
use Rattle.life_intervals.specs.Keys.{key_in_cohort, key_of}
use Rattle.life_intervals.specs.Rows.{Row, index_in_cohort}
use Rattle.life_intervals.specs.Simulation.{rows_at}
use Rattle.life_intervals.specs.Streams.{deleted, inserted, updated}
use Rattle.row_lines.specs.Derived.{day_of_kind, number_of_kind}
use Rattle.row_lines.specs.RowViews.{at_row, draws_of, parent_of_row}

-- the row of an ordinal that the table at a place holds at a unit; None where it holds none
abbrev pub held_row : Generator → ℕ → ℕ → ℕ → Option Row
held_row generator place unit ordinal = find (λ (row : Row). row.ordinal == ordinal) (rows_at generator place unit)

-- what a row of the table at a place holds in the column at a place, which is of this kind and puts no fields together, where that
-- isn't null by its own draw: in a reference the key of its parent, which is born by the row's birth, and None where it has lost it;
-- in a date after a date, a sum or a product None where one of the columns is null from which it is worked out
abbrev pub value_alone : Generator → ℕ → Row → ℕ → KindLayout → Option (List ℕ)
value_alone generator place row column key_kind =
    Some (decimal (key_in_cohort generator place row.born (index_in_cohort (table_at generator.tables place) row)))
value_alone generator place row column (reference_kind parent window spread nulls drawn) =
    option_map (λ ordinal. decimal (key_of generator parent row.born ordinal)) (parent_of_row (table_at generator.tables place) row column)
value_alone generator place row column (after_kind of lo hi) =
    option_map date_text (day_of_kind generator place row column (after_kind of lo hi))
value_alone generator place row column (sum_kind of) = option_map number_text (number_of_kind generator place row column (sum_kind of))
value_alone generator place row column (product_kind of) =
    option_map number_text (number_of_kind generator place row column (product_kind of))
value_alone generator place row column kind =
    own_value (table_at generator.tables place).columns (at_row row) (draws_of generator place row) column kind

-- what it holds in such a column, None where it is null
abbrev pub field_alone : Generator → ℕ → Row → ℕ → Option (List ℕ)
field_alone generator place row column =
    unless_null (column_at (table_at generator.tables place).columns column).null (draws_of generator place row column)
    (value_alone generator place row column (column_at (table_at generator.tables place).columns column).kind)

-- the text of a part of a template: a literal, or what the row holds in the column that is cited, filled with zeros up to so many bytes;
-- nothing where that is null
abbrev pub part_text : Generator → ℕ → Row → PartLayout → List ℕ
part_text generator place row (literal_part bytes) = bytes
part_text generator place row (cited_part column width) = unwrap_or (option_map (padded width) (field_alone generator place row column)) []

-- what a row of the table at a place holds in the column at a place, which is of this kind and no lookup, where that isn't null by its own
-- draw: in a template its parts, one after the other
abbrev pub value_in_table : Generator → ℕ → Row → ℕ → KindLayout → Option (List ℕ)
value_in_table generator place row column (template_kind parts) = Some (flat_map (part_text generator place row) parts)
value_in_table generator place row column kind = value_alone generator place row column kind

-- what it holds in such a column, None where it is null
abbrev pub field_in_table : Generator → ℕ → Row → ℕ → Option (List ℕ)
field_in_table generator place row column =
    unless_null (column_at (table_at generator.tables place).columns column).null (draws_of generator place row column)
    (value_in_table generator place row column (column_at (table_at generator.tables place).columns column).kind)

-- what a row of the table at a place looks up at a unit: what its parent by the reference in a column holds in a column of the parent's
-- table, as this table holds it at the unit
abbrev pub looked_up : Generator → ℕ → ℕ → Row → ℕ → ℕ → ℕ → Option (List ℕ)
looked_up generator unit place row via parent name =
    option_and_then (λ (held : Row). field_in_table generator parent held name)
    (option_and_then (held_row generator parent unit) (parent_of_row (table_at generator.tables place) row via))

-- what a row of the table at a place holds at a unit in the column at a place, which is of this kind, where that isn't null by its own draw
abbrev pub value : Generator → ℕ → ℕ → Row → ℕ → KindLayout → Option (List ℕ)
value generator unit place row column (lookup_kind via parent name) = looked_up generator unit place row via parent name
value generator unit place row column kind = value_in_table generator place row column kind

-- what a row of the table at a place holds at a unit in the column at a place, None where it is null. Of the kinds a lookup alone asks for
-- the unit
abbrev pub field : Generator → ℕ → ℕ → Row → ℕ → Option (List ℕ)
field generator unit place row column =
    unless_null (column_at (table_at generator.tables place).columns column).null (draws_of generator place row column)
    (value generator unit place row column (column_at (table_at generator.tables place).columns column).kind)

-- the fields of a row at a unit, as they are written
abbrev pub field_texts : Generator → ℕ → ℕ → Row → List (List ℕ)
field_texts generator unit place row =
    map (λ column. field_text generator.delimiter (field generator unit place row column))
    (range_with_len 0 (length (table_at generator.tables place).columns))

-- the line of a row at a unit: its fields as they are written, joined by the delimiter, then a line feed
unfoldable pub line : Generator → ℕ → ℕ → Row → List ℕ
line generator unit place row = join_with_byte generator.delimiter (field_texts generator unit place row) ++ codes "\n"

-- the line at a unit of the row with an ordinal in the table at a place of the schema
abbrev pub line_of : Generator → ℕ → ℕ → ℕ → List ℕ
line_of generator unit place ordinal =
    line generator unit place (row_at generator place unit ordinal)

-- that line where the row is alive, and nothing where it isn't
abbrev pub line_if_live : Generator → ℕ → ℕ → ℕ → List ℕ
line_if_live generator unit place ordinal =
    if is_live generator place unit ordinal then line_of generator unit place ordinal else []

-- the key line of the row with an ordinal that is born by a last unit: its key as it is written, then a line feed
abbrev pub key_line_of : Generator → ℕ → ℕ → ℕ → List ℕ
key_line_of generator last place ordinal =
    field_text generator.delimiter (Some (decimal (key_of generator place last ordinal))) ++ codes "\n"

-- the text at a unit of the table at a place of the schema: the lines of its rows, in order
unfoldable pub table_text : Generator → ℕ → ℕ → List ℕ
table_text generator unit place = flat_map (line generator unit place) (rows_at generator place unit)

-- the lines at a unit of the living among the first rows of a cohort, as many rows as `count`
unfoldable pub first_lines : Generator → ℕ → ℕ → ℕ → ℕ → List ℕ
first_lines generator unit place born count =
    flat_map (line_of generator unit place)
    (filter (is_live generator place unit)
    (range_with_len (first_ordinal (table_at generator.tables place).births born) count))

-- the lines at a unit of the living of a cohort
unfoldable pub cohort_text : Generator → ℕ → ℕ → ℕ → List ℕ
cohort_text generator unit place born =
    first_lines generator unit place born (cohort_size (table_at generator.tables place).births born)

-- the text at a unit of the cohorts that are born before another
unfoldable pub text_before : Generator → ℕ → ℕ → ℕ → List ℕ
text_before generator unit place born = flat_map (cohort_text generator unit place) (range_with_len 0 born)

-- the text of what a unit deletes from the table at a place: the key lines of the rows
abbrev pub deleted_text : Project → ℕ → ℕ → List ℕ
deleted_text plan unit place =
    flat_map (λ (row : Row). key_line_of (generator_of plan) (last_unit plan) place row.ordinal) (deleted (generator_of plan) place unit)

-- of what it updates there, and of what it inserts: the lines of the rows
abbrev pub updated_text : Project → ℕ → ℕ → List ℕ
updated_text plan unit place = flat_map (line (generator_of plan) unit place) (updated (generator_of plan) place unit)

abbrev pub inserted_text : Project → ℕ → ℕ → List ℕ
inserted_text plan unit place = flat_map (line (generator_of plan) unit place) (inserted (generator_of plan) place unit)
