use Rattle.std.proofs.Common.{◌≡◌, [], ◌++◌, false, length}
use Rattle.csv_face.specs.Csv.{records_text}
use Rattle.csv_face.specs.Scan.{records_behind}
use Rattle.csv_face.proofs.write.scanned.Given as goal

abbrev pub invariant-loop-rest : goal.invariant-loop-rest
invariant-loop-rest l =
    l.csv.items ++ records_text (records_behind l.delimiter [] [] false l.rest) ≡ records_text (records_behind l.delimiter [] [] false l.text)

abbrev pub decreases-loop-rest : goal.decreases-loop-rest
decreases-loop-rest l = length l.rest
