use Rattle.std.proofs.Common.{◌*◌, ◌<◌}
use Rattle.id_permutation.specs.Placement.{mix, place}
use Rattle.id_permutation.proofs.WalkLaws.{LiesAhead, steps_left}
use Rattle.id_permutation.proofs.PlacementLaws.{area_of}
use Rattle.id_permutation.proofs.table_network.walk_on.Given as goal

-- the place lies ahead
abbrev pub invariant-loop-place : goal.invariant-loop-place
invariant-loop-place l = record {
  within : l.place < l.fn.network.height * l.fn.network.width;
  ahead : LiesAhead (mix l.fn.network.size l.fn.network.seed) l.fn.network.size (area_of l.fn.network.size) l.place (place l.fn.network.size l.fn.network.seed l.number);
}

abbrev pub decreases-loop-place : goal.decreases-loop-place
decreases-loop-place l = steps_left (mix l.fn.network.size l.fn.network.seed) l.fn.network.size (area_of l.fn.network.size) l.place
