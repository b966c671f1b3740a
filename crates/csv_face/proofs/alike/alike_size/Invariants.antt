use Rattle.std.proofs.Common.{◌<◌, ◌-◌, ◌⊎◌, ◌≡◌, length}
use Rattle.csv_face.specs.Alike.{StandAlike}
use Rattle.csv_face.proofs.alike.alike_size.Given as goal

abbrev pub invariant-loop-size : goal.invariant-loop-size
invariant-loop-size l = record {
  within : (l.size < length l.text) ⊎ (l.size ≡ 0);
  alike : StandAlike l.text 0 l.size;
}

abbrev pub decreases-loop-size : goal.decreases-loop-size
decreases-loop-size l = length l.text - l.size
