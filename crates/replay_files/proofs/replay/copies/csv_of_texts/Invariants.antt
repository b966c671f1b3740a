use Rattle.std.proofs.Common.{map, take}
use Rattle.run_jobs.specs.Formats.{heading_of}
use Rattle.run_jobs.proofs.CsvLemmas.{AreHeaded}
use Rattle.replay_files.proofs.replay.copies.csv_of_texts.Given as goal

abbrev pub invariant-loop-place : goal.invariant-loop-place
invariant-loop-place l = AreHeaded l.delimiter (take l.place (map (heading_of l.header) l.tables)) (take l.place l.texts) l.csvs
