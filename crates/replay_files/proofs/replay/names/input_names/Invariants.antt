use Rattle.std.proofs.Common.{◌≡◌, flat_map, take}
use Rattle.replay_files.specs.Replay.{format_of, names_by}
use Rattle.replay_files.proofs.replay.names.input_names.Given as goal

abbrev pub invariant-loop-place : goal.invariant-loop-place
invariant-loop-place l = l.names ≡ flat_map (names_by l.replay.way (format_of l.replay) l.request.from l.request.to) (take l.place l.replay.names)
