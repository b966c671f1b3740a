-- How long a field may be, as a plan tells it.
use Rattle.std.proofs.Common.{◌≡◌, ℕ, ◌+◌, ◌<◌, List, length, map, get_or, ap, sym, ◌∙◌, arith}
use Rattle.std.proofs.lemmas.List.{get_or-map, length-map}
use Rattle.std.proofs.lemmas.List.Sums.{get_or-le-sum_by}
use Rattle.schema_model.specs.declared.column.Column.{Column}
use Rattle.schema_model.specs.declared.table.Table.{Table}
use Rattle.schema_facts.specs.Capped.{capped}
use Rattle.schema_facts.specs.Dictionaries.{Project}
use Rattle.schema_facts.specs.FieldSizes.{field_sizes, size_of}
use Rattle.schema_facts.specs.Layout.{ColumnLayout, Layout, TableLayout, column_at, column_layout, kind_layout, layout_of, no_column, table_at, table_layout}
use Rattle.schema_plan.specs.Limits.{IsInLimits}
use Rattle.schema_facts.specs.TableFacts.{max_line}
use Rattle.schema_facts.proofs.FactsLemmas.{table_at-is}

-- the size of the column at a place, as the layout has it
abbrev pub size_for : Layout → ℕ → ℕ → ℕ
size_for layout place column =
    size_of layout.delimiter layout.tables (table_at layout.tables place).columns (column_at (table_at layout.tables place).columns column).kind

-- a field takes less than its line
pub field-less : (layout : Layout) (place column : ℕ) → column < length (table_at layout.tables place).columns → size_for layout place column < max_line layout place
unfolding max_line
field-less layout place column below =
    let table : TableLayout = table_at layout.tables place in
    let size : ColumnLayout → ℕ = λ of. size_of layout.delimiter layout.tables table.columns of.kind in
    let sizes : List ℕ = field_sizes layout.delimiter layout.tables table.columns in
    let inside : column < length sizes = omega (arith, below, length-map table.columns size) in
    omega (
      arith,
      get_or-map size table.columns column no_column (size no_column) below,
      get_or-le-sum_by (λ n. n + 1) sizes column (size no_column) inside,
    )

-- a table that a plan finds has as many columns as its layout
pub columns-found : (project : Project) (place : ℕ) (table : Table) → place < length project.schema.tables → table ≡ get_or project.schema.tables place table →
    length (table_at (layout_of project).tables place).columns ≡ length table.columns
columns-found project place table below table_is =
    let layout : Table → TableLayout = table_layout project.dictionaries project.schema.tables in
    ap (λ (of : TableLayout). length of.columns) (table_at-is project.dictionaries project.schema.tables place table below)
    ∙ ap (λ (of : Table). length (layout of).columns) (sym table_is)
    ∙ length-map table.columns (column_layout project.dictionaries project.schema.tables table.columns)

-- the table and the column that a plan finds are those of its layout
pub size-found : (project : Project) (place column : ℕ) (table : Table) (own : Column) → place < length project.schema.tables → column < length table.columns →
    table ≡ get_or project.schema.tables place table → own ≡ get_or table.columns column own →
    size_of (layout_of project).delimiter (layout_of project).tables (table_layout project.dictionaries project.schema.tables table).columns
    (kind_layout project.dictionaries project.schema.tables table.columns own.kind)
    ≡ size_for (layout_of project) place column
size-found project place column table own below within table_is own_is =
    let layout : Layout = layout_of project in
    let made : Column → ColumnLayout = column_layout project.dictionaries project.schema.tables table.columns in
    let here : table_layout project.dictionaries project.schema.tables table ≡ table_at layout.tables place =
    ap (table_layout project.dictionaries project.schema.tables) table_is ∙ sym (table_at-is project.dictionaries project.schema.tables place table below) in
    let column_is : made own ≡ column_at (map made table.columns) column = ap made own_is ∙ sym (get_or-map made table.columns column own no_column within) in
    ap (λ (of : ColumnLayout). size_of layout.delimiter layout.tables (table_layout project.dictionaries project.schema.tables table).columns of.kind) column_is
    ∙ ap (λ (of : TableLayout). size_of layout.delimiter layout.tables of.columns (column_at of.columns column).kind) here

-- no size of an accepted schema is past the end of 64 bits
pub field-uncapped : (project : Project) → IsInLimits project → (place column : ℕ) → place < length project.schema.tables → column < length (table_at (layout_of project).tables place).columns →
    capped (size_for (layout_of project) place column) ≡ size_for (layout_of project) place column
field-uncapped project limits place column below within =
    omega (arith, field-less (layout_of project) place column within, limits.lines place below)
