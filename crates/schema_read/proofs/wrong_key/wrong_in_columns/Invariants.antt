use Rattle.std.proofs.Common.{map}
use Rattle.schema_read.specs.Document.{members_of_value}
use Rattle.schema_read.specs.Shape.{column_wrong}
use Rattle.schema_read.proofs.Places.{AreRightTo}
use Rattle.schema_read.proofs.wrong_key.wrong_in_columns.Given as goal

abbrev pub invariant-loop-i : goal.invariant-loop-i
invariant-loop-i l = AreRightTo (column_wrong l.place.table) (map members_of_value l.items) l.i
