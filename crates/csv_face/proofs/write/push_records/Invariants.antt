use Rattle.std.proofs.Common.{[], ◌++◌, ◌≤◌, false, length}
use Rattle.csv_face.specs.Csv.{records_text}
use Rattle.csv_face.specs.Scan.{records_behind}
use Rattle.csv_face.specs.Scanners.{WillWrite}
use Rattle.csv_face.proofs.write.push_records.Given as goal

abbrev pub invariant-loop-scanner : goal.invariant-loop-scanner
invariant-loop-scanner l = record {
  written : WillWrite l.delimiter l.scanner (l.fn.csv.items ++ records_text (records_behind l.delimiter [] [] false l.text)) l.rest;
  within : length l.rest ≤ length l.text;
}

abbrev pub decreases-loop-scanner : goal.decreases-loop-scanner
decreases-loop-scanner l = length l.rest
