use Rattle.std.proofs.Common.{◌≡◌, ◌≤◌, ◌+◌, ◌*◌}
use Rattle.row_lines.specs.RunFields.{asked_for}
use Rattle.row_lines.proofs.RowOfRunLemmas.{of_unit}
use Rattle.row_lines.proofs.RunTotalLemmas.{AreToldTo}
use Rattle.row_lines.proofs.runs.RunLines.find_totals.Given as goal

abbrev pub invariant-loop-row : goal.invariant-loop-row
invariant-loop-row g l = record {
  lines : l.lines ≡ of_unit l.self l.lines.born;
  told : AreToldTo l.self l.rows.ordinals.now l.live l.totals l.column l.row;
  steps : l.steps ≤ l.fn.steps + l.row * asked_for l.self l.column;
}
