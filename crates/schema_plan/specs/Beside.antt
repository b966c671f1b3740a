-- A table beside a schema: it stands after the schema's tables and may refer to them. Its dictionaries are handed in with it.
use Rattle.std.specs.Prelude.{ℕ, List, map}
use Rattle.schema_model.specs.declared.column.Column.{Column}
use Rattle.schema_model.specs.declared.table.Table.{Table}
use Rattle.schema_facts.specs.declared.column_facts.ColumnFacts.{ColumnFacts}
use Rattle.schema_plan.specs.declared.ready.ReadyColumn.{ReadyColumn}
use Rattle.schema_facts.specs.Capped.{capped_column}
use Rattle.schema_facts.specs.ColumnFacts.{column_facts, facts_of_columns}
use Rattle.schema_facts.specs.Dictionaries.{Dictionary, Project}
use Rattle.schema_facts.specs.FieldSizes.{field_sizes}
use Rattle.schema_facts.specs.Layout.{column_layout, layout_of, table_layout, table_layouts}
use Rattle.schema_plan.specs.Ready.{ready_column}
use Rattle.schema_facts.specs.TableFacts.{line_size}

-- the facts of its first 64 columns, in order, with costs that stand at the last of 64 bits where they are past it. No fact speaks of words,
-- so none asks for a dictionary
unfoldable pub facts_beside : Project → Table → List ColumnFacts
facts_beside project table =
    map capped_column
    (facts_of_columns (layout_of project).units (layout_of project).tables (column_facts (layout_of project))
    (table_layout project.dictionaries project.schema.tables table))

-- the greatest size of a line of its columns, in bytes
unfoldable pub line_beside : Project → List Dictionary → List Column → ℕ
line_beside project dictionaries columns =
    line_size
    (field_sizes (layout_of project).delimiter (table_layouts dictionaries project.schema.tables)
    (map (column_layout dictionaries project.schema.tables columns) columns))

-- its columns, ready for rows
abbrev pub ready_beside : Project → List Dictionary → List Column → List ReadyColumn
ready_beside project dictionaries columns =
    map (λ column. ready_column (layout_of project).delimiter (column_layout dictionaries project.schema.tables columns column)) columns
