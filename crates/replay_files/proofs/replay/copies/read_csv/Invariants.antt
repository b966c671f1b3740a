use Rattle.std.proofs.Common.{map, take, zip}
use Rattle.run_jobs.specs.InputFiles.{AreReadAs}
use Rattle.replay_files.proofs.replay.copies.read_csv.Given as goal

abbrev pub invariant-loop-number : goal.invariant-loop-number
invariant-loop-number l = AreReadAs l.header l.delimiter (take l.number (zip (map (λ own. own.now) l.columns) l.inputs)) l.copies
