-- The sites of a schema, where its rules are tried, in order: the whole, then each table before its columns.
use Rattle.std.specs.Prelude.{◌≡◌, ◌⊎◌, ◌<◌, ℕ, suc, List, [], length, map, slice_index_or, ⊤}
use Rattle.schema_model.specs.declared.table.Schema.{Schema}
use Rattle.schema_model.specs.declared.table.Table.{Table}
use Rattle.schema_model.specs.declared.column.Column.{Column}
use Rattle.schema_plan.specs.declared.site.Site.{Site}
use Rattle.schema_plan.specs.declared.site.Site.TheVariants.{Whole, OfTable, OfColumn}

-- the columns of the table at a place, counted from 0
abbrev pub columns_at : Schema → ℕ → List Column
columns_at schema table = slice_index_or (map (λ (t : Table). t.columns) schema.tables) table []

-- the site is one of the schema's
abbrev pub IsSiteOf : Schema → Site → Type 0
IsSiteOf schema Whole = ⊤
IsSiteOf schema (OfTable table) = table < length schema.tables
IsSiteOf schema (OfColumn table column) = (table < length schema.tables) × (column < length (columns_at schema table))

-- the place of a site's table, counted from 1; 0 where it is in none
abbrev pub table_number : Site → ℕ
table_number Whole = 0
table_number (OfTable table) = suc table
table_number (OfColumn table column) = suc table

-- the place of a site's column, counted from 1; 0 where it is in none
abbrev pub column_number : Site → ℕ
column_number Whole = 0
column_number (OfTable table) = 0
column_number (OfColumn table column) = suc column

-- the order of sites
abbrev pub IsBefore : Site → Site → Type 0
IsBefore one other =
    (table_number one < table_number other)
    ⊎ ((table_number one ≡ table_number other) × (column_number one < column_number other))
