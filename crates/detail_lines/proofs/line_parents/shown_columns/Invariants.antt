use Rattle.std.proofs.Common.{◌≡◌, map}
use Rattle.std.specs.List.{range_with_len}
use Rattle.detail_lines.specs.Made.{shown_column}
use Rattle.detail_lines.proofs.line_parents.shown_columns.Given as goal

abbrev pub invariant-loop-column : goal.invariant-loop-column
invariant-loop-column l = l.made.items ≡ map (shown_column (record { plan = l.plan; kept = l.detail })) (range_with_len 0 l.column)
