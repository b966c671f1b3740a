use Rattle.std.proofs.Common.{◌≡◌, ◌+◌, map, sum_by, take}
use Rattle.schema_model.specs.declared.column.Column.{Column}
use Rattle.schema_facts.specs.Capped.{capped}
use Rattle.schema_facts.specs.FieldSizes.{size_of}
use Rattle.schema_facts.specs.Layout.{column_layout, kind_layout, table_layouts}
use Rattle.schema_facts.proofs.facts.line_size.Given as goal

abbrev pub invariant-loop-column : goal.invariant-loop-column
invariant-loop-column l =
    let size = λ (column : Column). size_of l.delimiter (table_layouts l.dictionaries l.tables) (map (column_layout l.dictionaries l.tables l.columns) l.columns) (kind_layout l.dictionaries l.tables l.columns column.kind) in
    l.size ≡ capped (sum_by (λ column. size column + 1) (take l.column-index l.columns))
