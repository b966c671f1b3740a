use Rattle.std.proofs.Common.{◌≡◌, ◌++◌, map, take}
use Rattle.pd_outside.specs.Files.{File}
use Rattle.table_jobs.proofs.modes.sample.push_changes.Given as goal

abbrev pub invariant-loop-place : goal.invariant-loop-place
invariant-loop-place l = l.inputs ≡ l.initial.inputs ++ map (λ (file : File). file.bytes) (take l.place l.files)
