use Rattle.std.proofs.Common.{◌≡◌, map, take}
use Rattle.replay_files.specs.Replay.{format_of}
use Rattle.run_jobs.specs.InputFiles.{text_name}
use Rattle.replay_files.proofs.replay.names.text_names.Given as goal

abbrev pub invariant-loop-place : goal.invariant-loop-place
invariant-loop-place l = l.names ≡ map (text_name (format_of l.replay)) (take l.place l.replay.names)
