use Rattle.std.proofs.Common.{◌≡◌, count_by, take}
use Rattle.update_box.specs.Candidates.{is_cascade}
use Rattle.update_box.proofs.deletions.count_cascades.Given as goal

abbrev pub invariant-loop-column : goal.invariant-loop-column
invariant-loop-column l = l.count ≡ count_by is_cascade (take l.column-index l.columns)
