use Rattle.std.proofs.Common.{◌≤◌}
use Rattle.sql_lines.specs.Packages.{room_of}
use Rattle.statement_tests.proofs.statements.pack_all.Given as goal

abbrev pub invariant-loop-n : goal.invariant-loop-n
invariant-loop-n l = room_of l.packer ≤ l.page.room
