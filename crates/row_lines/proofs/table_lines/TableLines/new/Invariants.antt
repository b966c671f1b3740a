use Rattle.std.proofs.Common.{◌≡◌, map}
use Rattle.std.specs.List.{range_with_len}
use Rattle.row_lines.specs.TableLines.{column_of, is_short_at, shown_of}
use Rattle.row_lines.proofs.table_lines.TableLines.new.Given as goal

abbrev pub invariant-loop-column : goal.invariant-loop-column
invariant-loop-column l = record {
  columns : l.columns.items ≡ map (column_of l.plan l.table) (range_with_len 0 l.column);
  shown : l.shown.items ≡ map (shown_of l.plan l.table) (range_with_len 0 l.column);
  short : l.short.items ≡ map (is_short_at l.plan l.table) (range_with_len 0 l.column);
}
