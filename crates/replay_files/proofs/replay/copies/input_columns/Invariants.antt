use Rattle.std.proofs.Common.{◌≡◌, ◌-◌, flat_map, map, take}
use Rattle.run_jobs.specs.InputFiles.{names_in}
use Rattle.replay_files.proofs.replay.copies.input_columns.Given as goal

abbrev pub invariant-loop-place : goal.invariant-loop-place
invariant-loop-place l = map (λ own. own.now) l.columns.items ≡ flat_map (names_in (l.request.to - l.request.from)) (take l.place l.tables)
