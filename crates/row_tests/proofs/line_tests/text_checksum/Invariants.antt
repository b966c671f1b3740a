use Rattle.std.proofs.Common.{◌≡◌, ◌-◌}
use Rattle.row_tests.proofs.line_tests.text_checksum.Given as goal

abbrev pub invariant-loop-first : goal.invariant-loop-first
invariant-loop-first g l = l.page.room ≡ l.fn.page.room

abbrev pub decreases-loop-first : goal.decreases-loop-first
decreases-loop-first g l = l.rows - l.first
