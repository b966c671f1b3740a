use Rattle.std.proofs.Common.{ℕ, List}
use Rattle.csv_face.specs.Readers.{CanRead, StandsAfter}
use Rattle.csv_face.proofs.ReadLemmas.{HasRead}
use Rattle.csv_face.proofs.read.read_rows.Given as goal

abbrev pub invariant-loop-number : goal.invariant-loop-number
invariant-loop-number l =
    CanRead l.reader
    × ((bytes : List ℕ) (first : List (List (List ℕ))) → StandsAfter bytes first l.fn.reader → HasRead bytes first l.delimiter l.fields (l.fn.next) l.number l.lines.text.items l.reader)
