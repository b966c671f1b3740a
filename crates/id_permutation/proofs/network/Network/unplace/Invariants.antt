use Rattle.std.proofs.Common.{◌*◌, ◌<◌}
use Rattle.id_permutation.specs.Placement.{unplace}
use Rattle.id_permutation.proofs.WalkLaws.{LiesAhead, steps_left}
use Rattle.id_permutation.proofs.PlacementLaws.{area_of, unmix}
use Rattle.id_permutation.proofs.network.Network.unplace.Given as goal

-- the number lies ahead, on the walk backwards
abbrev pub invariant-loop-number : goal.invariant-loop-number
invariant-loop-number l = record {
  within : l.number < l.self.height * l.self.width;
  ahead : LiesAhead (unmix l.self.size l.self.seed) l.self.size (area_of l.self.size) l.number (unplace l.self.size l.self.seed l.place);
}

abbrev pub decreases-loop-number : goal.decreases-loop-number
decreases-loop-number l = steps_left (unmix l.self.size l.self.seed) l.self.size (area_of l.self.size) l.number
