use Rattle.std.proofs.Common.{◌≡◌, map}
use Rattle.std.specs.List.{range_with_len}
use Rattle.detail_lines.specs.Made.{prepared_column}
use Rattle.detail_lines.proofs.detail_lines.line_columns.Given as goal

abbrev pub invariant-loop-column : goal.invariant-loop-column
invariant-loop-column l = l.made.items ≡ map (prepared_column (record { plan = l.plan; kept = l.detail })) (range_with_len 0 l.column)
