use Rattle.std.proofs.Common.{◌≡◌, map}
use Rattle.std.specs.List.{range_with_len}
use Rattle.run_jobs.specs.modes.Undo.{undo_path}
use Rattle.run_jobs.proofs.names.Directory.undo_paths.Given as goal

abbrev pub invariant-loop-number : goal.invariant-loop-number
invariant-loop-number l = l.paths ≡ map (undo_path l.self.plan.now l.unit l.self.name.now) (range_with_len l.places.from l.number)
