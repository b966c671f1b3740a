use Rattle.std.proofs.Common.{arith}
use Rattle.schema_read.specs.Document.{members_of_value}
use Rattle.schema_read.specs.Shape.{column_wrong}
use Rattle.schema_read.proofs.Places.{begins, goes_on, stops, ends}
use Rattle.schema_read.proofs.wrong_key.wrong_in_columns.Goals as goal

pub loop-i-init : goal.loop-i-init
loop-i-init c = begins _ _

pub returns-in-Some : goal.returns-in-Some
returns-in-Some c = stops (column_wrong c.args.place.table) members_of_value c.args.items.now c.loop-i.i c.index-items-i.result _ (omega arith) c.index-items-i.is c.in-Some.ensures c.loop-i.invariant

pub loop-i-preserved : goal.loop-i-preserved
loop-i-preserved c = goes_on (column_wrong c.args.place.table) members_of_value c.args.items.now c.loop-i.i c.index-items-i.result (omega arith) c.index-items-i.is c.in_default.ensures c.loop-i.invariant

pub returns : goal.returns
returns c = ends (column_wrong c.args.place.table) members_of_value c.args.items.now c.loop-i.i (omega arith) c.loop-i.invariant
