use Rattle.std.proofs.Common.{◌≤◌}
use Rattle.csv_face.proofs.alike.whole_size.Given as goal

abbrev pub invariant-loop-size : goal.invariant-loop-size
invariant-loop-size l = l.size ≤ l.most

abbrev pub decreases-loop-size : goal.decreases-loop-size
decreases-loop-size l = l.size
