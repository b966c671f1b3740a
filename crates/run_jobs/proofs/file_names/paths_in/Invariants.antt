use Rattle.std.proofs.Common.{◌≡◌, map, take}
use Rattle.run_jobs.specs.Formats.{in_directory}
use Rattle.run_jobs.proofs.file_names.paths_in.Given as goal

abbrev pub invariant-loop-place : goal.invariant-loop-place
invariant-loop-place l = l.paths ≡ map (in_directory l.directory) (take l.place l.names)
