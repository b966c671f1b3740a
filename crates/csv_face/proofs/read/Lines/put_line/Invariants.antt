use Rattle.std.proofs.Common.{◌≡◌, ◌++◌, map, take}
use Rattle.csv.specs.Records.{fields_of}
use Rattle.row_text.specs.Lines.{line_text}
use Rattle.csv_face.specs.Reading.{row_field}
use Rattle.csv_face.proofs.read.Lines.put_line.Given as goal

abbrev pub invariant-loop-index : goal.invariant-loop-index
invariant-loop-index l =
    l.self.text.items ≡ l.fn.self.text.items ++ line_text l.delimiter (map row_field (take l.index (fields_of l.fields)))
