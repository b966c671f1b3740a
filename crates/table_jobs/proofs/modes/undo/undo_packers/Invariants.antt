use Rattle.std.proofs.Common.{◌≡◌, map}
use Rattle.std.specs.List.{range_with_len}
use Rattle.run_jobs.specs.modes.Undo.{undo_packages}
use Rattle.table_jobs.proofs.modes.undo.undo_packers.Given as goal

abbrev pub invariant-loop-number : goal.invariant-loop-number
invariant-loop-number l = l.joined.parts.items ≡ map (undo_packages l.job.of.of.plan l.job.of.of.asked) (range_with_len l.from l.number)
