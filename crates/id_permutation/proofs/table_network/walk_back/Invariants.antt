use Rattle.std.proofs.Common.{◌*◌, ◌<◌}
use Rattle.id_permutation.specs.Placement.{unplace}
use Rattle.id_permutation.proofs.WalkLaws.{LiesAhead, steps_left}
use Rattle.id_permutation.proofs.PlacementLaws.{area_of, unmix}
use Rattle.id_permutation.proofs.table_network.walk_back.Given as goal

-- the number lies ahead, on the walk backwards
abbrev pub invariant-loop-number : goal.invariant-loop-number
invariant-loop-number l = record {
  within : l.number < l.fn.network.height * l.fn.network.width;
  ahead : LiesAhead (unmix l.fn.network.size l.fn.network.seed) l.fn.network.size (area_of l.fn.network.size) l.number (unplace l.fn.network.size l.fn.network.seed l.place);
}

abbrev pub decreases-loop-number : goal.decreases-loop-number
decreases-loop-number l = steps_left (unmix l.fn.network.size l.fn.network.seed) l.fn.network.size (area_of l.fn.network.size) l.number
