use Rattle.std.proofs.Common.{◌≡◌, map, take}
use Rattle.detail_plan.specs.Beside.{column_beside}
use Rattle.detail_plan.proofs.beside.columns_beside.Given as goal

abbrev pub invariant-loop-column : goal.invariant-loop-column
invariant-loop-column l = l.columns ≡ map column_beside (take l.column-index l.column-items)
