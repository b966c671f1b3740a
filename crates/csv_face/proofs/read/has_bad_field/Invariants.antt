use Rattle.std.proofs.Common.{◌≡◌, drop}
use Rattle.std.specs.List.{list_any}
use Rattle.csv.specs.Records.{fields_of}
use Rattle.csv_face.specs.Reading.{is_bad_field}
use Rattle.csv_face.proofs.read.has_bad_field.Given as goal

abbrev pub invariant-loop-index : goal.invariant-loop-index
invariant-loop-index l = list_any is_bad_field (drop l.index (fields_of l.fields)) ≡ list_any is_bad_field (fields_of l.fields)
