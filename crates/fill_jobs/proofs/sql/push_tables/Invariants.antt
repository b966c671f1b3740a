use Rattle.std.proofs.Common.{◌≡◌, ◌++◌}
use Rattle.std.specs.List.{range_with_len}
use Rattle.update_box.specs.Parts.{parts_of}
use Rattle.fill_jobs.proofs.sql.push_tables.Given as goal

abbrev pub invariant-loop-number : goal.invariant-loop-number
invariant-loop-number l = l.parts.items ≡ l.initial.parts.items ++ parts_of l.contents (range_with_len l.places.from l.number)
