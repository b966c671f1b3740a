use Rattle.std.proofs.Common.{◌≡◌, ◌++◌, take, drop, map}
use Rattle.csv_face.specs.Alike.{byte_in_csv}
use Rattle.csv_face.proofs.alike.put_commas.Given as goal

abbrev pub invariant-loop-place : goal.invariant-loop-place
invariant-loop-place l = l.lines ≡ map (byte_in_csv l.delimiter) (take l.place l.fn.lines) ++ drop l.place l.fn.lines
