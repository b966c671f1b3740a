-- What a statement takes at most, in bytes.
use Rattle.std.specs.Prelude.{ℕ, ◌+◌, ◌*◌, Bool, true, false, max, sum_by}
use Rattle.schema_facts.specs.FieldSizes.{greatest_by, size_of}
use Rattle.schema_facts.specs.Layout.{ColumnLayout, Layout, TableLayout, table_at}
use Rattle.sql_lines.specs.Bare.{is_bare}

-- what the literal of a field takes whose size is at most this: a bare one no less than NULL, and between quotes each byte may be a quote
abbrev pub literal_size : Bool → ℕ → ℕ
literal_size true size = max 4 size
literal_size false size = 2 * size + 2

-- what the literal of a column takes
abbrev pub literal_of_column : Layout → TableLayout → ColumnLayout → ℕ
literal_of_column layout table column =
    literal_size (is_bare layout.tables column.kind) (size_of layout.delimiter layout.tables table.columns column.kind)

-- what a statement on a table takes: the words and the names of the table and its key, and for each column its name with what stands
-- around it, and its literal
abbrev pub statement_of_table : Layout → TableLayout → ℕ
statement_of_table layout table = 128 + sum_by (λ (column : ColumnLayout). 40 + literal_of_column layout table column) table.columns

-- on the table at a place
unfoldable pub statement_size : Layout → ℕ → ℕ
statement_size layout place = statement_of_table layout (table_at layout.tables place)

-- on any table
unfoldable pub statement_reach : Layout → ℕ
statement_reach layout = greatest_by (statement_of_table layout) layout.tables
