use Rattle.std.proofs.Common.{◌≡◌, ◌++◌, map}
use Rattle.run_jobs.specs.InputFiles.{names_in}
use Rattle.replay_files.proofs.replay.copies.push_columns.Given as goal

abbrev pub invariant-loop-unit : goal.invariant-loop-unit
invariant-loop-unit l = map (λ own. own.now) l.columns.items ≡ map (λ own. own.now) l.fn.columns.items ++ names_in l._unit l.names
