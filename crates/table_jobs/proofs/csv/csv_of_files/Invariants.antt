use Rattle.std.proofs.Common.{map, take}
use Rattle.pd_outside.specs.Files.{File}
use Rattle.run_jobs.proofs.CsvLemmas.{AreHeaded}
use Rattle.table_jobs.proofs.csv.csv_of_files.Given as goal

abbrev pub invariant-loop-place : goal.invariant-loop-place
invariant-loop-place l = AreHeaded l.delimiter (take l.place l.headings) (take l.place (map (λ (file : File). file.bytes) l.files)) l.csvs
