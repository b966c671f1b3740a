use Rattle.std.proofs.Common.{◌≡◌, map}
use Rattle.std.specs.List.{range_with_len}
use Rattle.sql_lines.specs.Frames.{insertion_column}
use Rattle.sql_lines.proofs.frame.Frame.of_insertions.Given as goal

abbrev pub invariant-loop-column : goal.invariant-loop-column
invariant-loop-column l = l.columns.items ≡ map (insertion_column l.plan l.table) (range_with_len 0 l.column)
