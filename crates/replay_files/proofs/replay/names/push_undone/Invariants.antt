use Rattle.std.proofs.Common.{◌≡◌, ◌-◌, ◌++◌, ◌∷◌}
use Rattle.run_jobs.specs.InputFiles.{text_name}
use Rattle.replay_files.specs.Replay.{undo_names}
use Rattle.replay_files.proofs.replay.names.push_undone.Given as goal

abbrev pub invariant-loop-step : goal.invariant-loop-step
invariant-loop-step l =
    l.names ++ undo_names l.table l.request.to ((l.request.from - l.request.to) - l.step)
    ≡ l.fn.names ++ (text_name l.fn.format l.table ∷ undo_names l.table l.request.to (l.request.from - l.request.to))
