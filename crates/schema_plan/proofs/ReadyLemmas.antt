-- What is kept of columns: it is made ready of what is within its limits.
use Rattle.std.proofs.Common.{◌≡◌, ℕ, ◌+◌, ◌<◌, List, [], ◌∷◌, ◌++◌, length, map, get_or, sym, ap, ◌∙◌, subst, arith}
use Rattle.std.specs.List.{All, range_with_len}
use Rattle.std.proofs.lemmas.List.{get_or-map, length-map}
use Rattle.std.proofs.lemmas.List.Elements.{All-cons}
use Rattle.std.proofs.lemmas.List.FromFn.{map-range_with_len_more}
use Rattle.schema_model.specs.declared.table.Table.{Table}
use Rattle.schema_model.specs.declared.column.Column.{Column}
use Rattle.schema_model.specs.declared.column.Kind.{Kind}
use Rattle.schema_model.specs.declared.column.Kind.TheVariants as kind
use Rattle.schema_model.specs.declared.column.Leaf.{Leaf}
use Rattle.schema_plan.specs.declared.ready.ReadyColumn.{ReadyColumn}
use Rattle.schema_plan.specs.Citations.{leaves_of}
use Rattle.schema_facts.specs.Counts.{count}
use Rattle.schema_facts.specs.Delimiters.{delimiter_byte}
use Rattle.schema_facts.specs.Dictionaries.{Dictionary, Project}
use Rattle.schema_facts.specs.Layout.{ColumnLayout, TableLayout, column_at, column_layout, kind_layout, layout_of, leaf_layout, no_column, no_table, table_at, table_layout, table_layouts}
use Rattle.schema_plan.specs.Limits.{CanBeReady, IsAfterOf, IsInLimits, IsKindInLimits, IsLeafInLimits, IsListOf, IsSpreadOf, IsTableInLimits}
use Rattle.schema_plan.specs.Ready.{ready_column, ready_columns}
use Rattle.schema_facts.proofs.FactsLemmas.{table_at-is}
use Rattle.schema_facts.proofs.Lists.{map-map}

-- ---- limits

-- what is drawn for a column within its limits
leaves_in_limits : (dictionaries : List Dictionary) (tables : List Table) (columns : List Column) (layouts : List ColumnLayout) (place : ℕ) (kind : Kind) → IsKindInLimits layouts place (kind_layout dictionaries tables columns kind) → All (λ leaf. IsLeafInLimits (leaf_layout dictionaries leaf)) (leaves_of kind)
leaves_in_limits dictionaries tables columns layouts place (kind.Leaf leaf) h =
    All-cons (λ (leaf : Leaf). IsLeafInLimits (leaf_layout dictionaries leaf)) leaf [] h (λ i d none. absurd (omega arith))
leaves_in_limits dictionaries tables columns layouts place (kind.Case on branches) h = λ i d within.
    subst IsLeafInLimits (get_or-map (leaf_layout dictionaries) branches i d (leaf_layout dictionaries d) within)
    (h.each i (leaf_layout dictionaries d) (omega (arith, within, length-map branches (leaf_layout dictionaries))))
leaves_in_limits dictionaries tables columns layouts place _ h = λ i d none. absurd (omega arith)

spread_in_limits : (dictionaries : List Dictionary) (tables : List Table) (columns : List Column) (layouts : List ColumnLayout) (place : ℕ) (kind : Kind) → IsKindInLimits layouts place (kind_layout dictionaries tables columns kind) → IsSpreadOf kind
spread_in_limits dictionaries tables columns layouts place (kind.Ref table window spread on_delete deal) h = h
spread_in_limits dictionaries tables columns layouts place _ h = tt

list_in_limits : (dictionaries : List Dictionary) (tables : List Table) (columns : List Column) (layouts : List ColumnLayout) (place : ℕ) (kind : Kind) → IsKindInLimits layouts place (kind_layout dictionaries tables columns kind) → IsListOf dictionaries kind
list_in_limits dictionaries tables columns layouts place (kind.List file) h = h
list_in_limits dictionaries tables columns layouts place _ h = tt

after_in_limits : (dictionaries : List Dictionary) (tables : List Table) (columns : List Column) (layouts : List ColumnLayout) (place : ℕ) (kind : Kind) → IsKindInLimits layouts place (kind_layout dictionaries tables columns kind) → IsAfterOf kind
after_in_limits dictionaries tables columns layouts place (kind.After of lo hi) h = h
after_in_limits dictionaries tables columns layouts place _ h = tt

-- the columns of a table of a schema within its limits
pub columns_in_limits : (project : Project) (place : ℕ) (table : Table) → IsInLimits project → place < length project.schema.tables → table ≡ get_or project.schema.tables place table → All (λ (column : Column). CanBeReady project.dictionaries column.kind) table.columns
columns_in_limits project place table limits within is = λ i d h.
    let dictionaries = project.dictionaries in
    let tables = project.schema.tables in
    let at : table_at (table_layouts dictionaries tables) place ≡ table_layout dictionaries tables table = table_at-is dictionaries tables place table within ∙ ap (table_layout dictionaries tables) (sym is) in
    let in_layouts : place < length (table_layouts dictionaries tables) = omega (arith, within, length-map tables (table_layout dictionaries tables)) in
    let own = subst (IsTableInLimits (count project.schema.units)) at (limits.tables place no_table in_layouts) in
    let layout = column_layout dictionaries tables table.columns in
    let layouts = map layout table.columns in
    let in_columns : i < length layouts = omega (arith, h, length-map table.columns layout) in
    let column : column_at layouts i ≡ layout (get_or table.columns i d) = get_or-map layout table.columns i d no_column h in
    let kind = (get_or table.columns i d).kind in
    let within_limits = subst (λ (c : ColumnLayout). IsKindInLimits layouts i c.kind) column (own.kinds i in_columns) in
    record {
      drawn = leaves_in_limits dictionaries tables table.columns layouts i kind within_limits;
      spread = spread_in_limits dictionaries tables table.columns layouts i kind within_limits;
      listed = list_in_limits dictionaries tables table.columns layouts i kind within_limits;
      after = after_in_limits dictionaries tables table.columns layouts i kind within_limits;
    }

-- ---- columns

-- what is kept of one of some columns, as the schema has them
abbrev pub kept_column : List Dictionary → ℕ → List Table → List Column → Column → ReadyColumn
kept_column dictionaries delimiter tables columns column = ready_column delimiter (column_layout dictionaries tables columns column)

pub ready_columns-is : (project : Project) (place : ℕ) (table : Table) → place < length project.schema.tables → table ≡ get_or project.schema.tables place table → ready_columns (layout_of project) place ≡ map (kept_column project.dictionaries (delimiter_byte project.schema.delimiter) project.schema.tables table.columns) table.columns
ready_columns-is project place table within is =
    let dictionaries = project.dictionaries in
    let tables = project.schema.tables in
    let delimiter = delimiter_byte project.schema.delimiter in
    let at : table_at (table_layouts dictionaries tables) place ≡ table_layout dictionaries tables table = table_at-is dictionaries tables place table within ∙ ap (table_layout dictionaries tables) (sym is) in
    let of = ready_column delimiter in
    ap (λ (layout : TableLayout). map of layout.columns) at
    ∙ map-map of (column_layout dictionaries tables table.columns) table.columns

-- ---- tables in order

-- the columns of one more table
pub one_table_more : (project : Project) (place : ℕ) (table : Table) (columns : List ReadyColumn) (kept : List (List ReadyColumn)) → place < length project.schema.tables → table ≡ get_or project.schema.tables place table → columns ≡ map (kept_column project.dictionaries (delimiter_byte project.schema.delimiter) project.schema.tables table.columns) table.columns → kept ≡ map (ready_columns (layout_of project)) (range_with_len 0 place) → kept ++ columns ∷ [] ≡ map (ready_columns (layout_of project)) (range_with_len 0 (place + 1))
one_table_more project place table columns kept within is columns_are so_far =
    let of = ready_columns (layout_of project) in
    ap (λ front. front ++ columns ∷ []) so_far
    ∙ ap (λ one. map of (range_with_len 0 place) ++ one ∷ []) (columns_are ∙ sym (ready_columns-is project place table within is))
    ∙ sym (map-range_with_len_more of 0 place place (omega arith))
