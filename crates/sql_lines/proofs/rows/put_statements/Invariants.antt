use Rattle.std.proofs.Common.{◌≤◌, ◌-◌, length}
use Rattle.sql_lines.specs.Told.{ordinals_told}
use Rattle.sql_lines.proofs.RowLemmas.{Stands}
use Rattle.sql_lines.proofs.rows.put_statements.Given as goal

abbrev pub invariant-loop-at : goal.invariant-loop-at
invariant-loop-at l = record {
  within : l.at ≤ length l.lines;
  stands : Stands l.of l.verb (ordinals_told l.of l.told) l.lines l.at l.fn.page l.page;
}

abbrev pub decreases-loop-at : goal.decreases-loop-at
decreases-loop-at l = length l.lines - l.at
