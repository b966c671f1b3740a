use Rattle.std.proofs.Common.{◌≡◌, [], take}
use Rattle.csv.specs.Records.{fields_of, partial_of}
use Rattle.csv_face.proofs.write.record_of.Given as goal

abbrev pub invariant-loop-place : goal.invariant-loop-place
invariant-loop-place l = (fields_of l.fields ≡ take l.place l.names) × (partial_of l.fields ≡ [])
