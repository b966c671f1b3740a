use Rattle.std.proofs.Common.{◌≡◌, ◌+◌, length}
use Rattle.life_intervals.proofs.asked.asked_tables.Given as goal

abbrev pub invariant-loop-table : goal.invariant-loop-table
invariant-loop-table l = length l.asked.items ≡ l.table

abbrev pub invariant-loop-back : goal.invariant-loop-back
invariant-loop-back l = length l.asked.items ≡ l.from + l.count
