use Rattle.std.proofs.Common.{◌≡◌, ◌-◌, ◌%◌, ◌++◌, min}
use Rattle.life_intervals.specs.FoundAt.{places_leaving}
use Rattle.life_intervals.proofs.found_at.push_places_leaving.Given as goal

-- the places before one of the residue that leave it stand after the list
abbrev pub invariant-loop-place : goal.invariant-loop-place
invariant-loop-place l = record {
  own : l.place % l.residue.modulus ≡ l.residue.remainder;
  so_far : l.places.items ≡ l.fn.places.items ++ places_leaving l.residue.modulus l.residue.remainder (min l.size l.place);
}

abbrev pub decreases-loop-place : goal.decreases-loop-place
decreases-loop-place l = l.size - l.place
