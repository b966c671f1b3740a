use Rattle.std.proofs.Common.{◌≡◌, ◌-◌, map}
use Rattle.std.specs.List.{range_with_len}
use Rattle.sql_lines.specs.Frames.{update_column}
use Rattle.sql_lines.proofs.frame.Frame.of_updates.Given as goal

abbrev pub invariant-loop-column : goal.invariant-loop-column
invariant-loop-column l = l.columns.items ≡ map (update_column l.plan l.table) (range_with_len 1 (l.column - 1))
