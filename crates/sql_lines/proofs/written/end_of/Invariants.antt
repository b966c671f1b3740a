use Rattle.std.proofs.Common.{◌≡◌, ◌+◌, drop, length}
use Rattle.sql_lines.specs.Reading.{field_before, field_from}
use Rattle.sql_lines.proofs.written.end_of.Given as goal

abbrev pub invariant-loop-end : goal.invariant-loop-end
invariant-loop-end l = l.end + length (field_from l.escape l.stop (drop l.end l.lines)) ≡ l.at + length (field_before l.stop (drop l.at l.lines))
