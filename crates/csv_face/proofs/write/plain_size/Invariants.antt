use Rattle.std.proofs.Common.{◌≡◌, take, true}
use Rattle.std.specs.List.{list_all}
use Rattle.csv_face.specs.Scan.{is_plain}
use Rattle.csv_face.proofs.write.plain_size.Given as goal

abbrev pub invariant-loop-place : goal.invariant-loop-place
invariant-loop-place l = list_all (is_plain l.delimiter) (take l.place l.text) ≡ true
