use Rattle.std.proofs.Common.{◌≡◌, false}
use Rattle.csv_face.specs.Alike.{StandAlike}
use Rattle.csv_face.proofs.alike.block_may_differ.Given as goal

abbrev pub invariant-loop-place : goal.invariant-loop-place
invariant-loop-place l = l.differs ≡ false → StandAlike l.text l.start l.place
