use Rattle.std.proofs.Common.{◌≡◌, ◌+◌, ◌++◌, ◌∷◌, flat_map}
use Rattle.std.specs.List.{range_with_len}
use Rattle.run_jobs.specs.InputFiles.{stream_names, text_name}
use Rattle.replay_files.proofs.replay.names.push_applied.Given as goal

abbrev pub invariant-loop-step : goal.invariant-loop-step
invariant-loop-step l =
    l.names ≡ l.fn.names ++ (text_name l.format l.table ∷ flat_map (stream_names l.format l.table) (range_with_len (l.request.from + 1) l.step))
