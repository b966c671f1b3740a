use Rattle.std.proofs.Common.{◌*◌, ◌<◌}
use Rattle.id_permutation.specs.Placement.{mix, place}
use Rattle.id_permutation.proofs.WalkLaws.{LiesAhead, steps_left}
use Rattle.id_permutation.proofs.PlacementLaws.{area_of}
use Rattle.id_permutation.proofs.network.Network.place.Given as goal

-- the place lies ahead
abbrev pub invariant-loop-place : goal.invariant-loop-place
invariant-loop-place l = record {
  within : l.place < l.self.height * l.self.width;
  ahead : LiesAhead (mix l.self.size l.self.seed) l.self.size (area_of l.self.size) l.place (place l.self.size l.self.seed l.number);
}

abbrev pub decreases-loop-place : goal.decreases-loop-place
decreases-loop-place l = steps_left (mix l.self.size l.self.seed) l.self.size (area_of l.self.size) l.place
