use Rattle.std.proofs.Common.{Contains}
use Rattle.std.specs.List.{slice_range}
use Rattle.row_text.proofs.lines.next_line.Given as goal

abbrev pub invariant-loop-end : goal.invariant-loop-end
invariant-loop-end l = ¬ Contains (slice_range l.bytes l.from l.end) 10
