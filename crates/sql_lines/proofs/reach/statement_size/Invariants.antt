use Rattle.std.proofs.Common.{◌≡◌, ◌+◌, sum_by, take}
use Rattle.schema_facts.specs.Layout.{ColumnLayout, layout_of, table_at}
use Rattle.sql_lines.specs.Reach.{literal_of_column}
use Rattle.sql_lines.proofs.reach.statement_size.Given as goal

abbrev pub invariant-loop-column : goal.invariant-loop-column
invariant-loop-column l =
    l.size
    ≡ 128 + sum_by (λ (column : ColumnLayout). 40 + literal_of_column (layout_of l.plan) (table_at (layout_of l.plan).tables l.table) column)
    (take l.column (table_at (layout_of l.plan).tables l.table).columns)
