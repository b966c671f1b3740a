use Rattle.std.proofs.Common.{map}
use Rattle.toml.specs.View.{view}
use Rattle.schema_read.proofs.Sequences.{AreRead}
use Rattle.schema_read.proofs.lists.sequence_of.Given as goal

abbrev pub invariant-loop-item : goal.invariant-loop-item
invariant-loop-item g l = AreRead g.T.Element.read (map view l.items) l.item-index l.sequence
