-- The definitions at small numbers. The values are those of an independent program, written in Python from the rules of the
-- placement and of Philox4x32-10.
use Rattle.std.proofs.Common.{◌≡◌, [], ◌∷◌, refl}
use Rattle.philox_seeds.specs.Philox.{philox4x32_10, next_key, round_key, philox_round, philox_rounds}
use Rattle.philox_seeds.specs.SeedTree.{keyed_number}
use Rattle.id_permutation.specs.Least.{least, least_from}
use Rattle.id_permutation.specs.Walk.{inverse_below, iterate, first_below}
use Rattle.id_permutation.specs.Placement.{height_of, width_of, round_number, round, rounds, mix, place, unplace}

pub places_of_seven : place 7 0 0 ∷ place 7 0 1 ∷ place 7 0 2 ∷ place 7 0 3 ∷ place 7 0 4 ∷ place 7 0 5 ∷ place 7 0 6 ∷ [] ≡ 4 ∷ 3 ∷ 2 ∷ 5 ∷ 1 ∷ 6 ∷ 0 ∷ []
unfolding philox4x32_10 next_key round_key philox_round philox_rounds keyed_number least least_from iterate first_below height_of width_of round_number round rounds mix place
places_of_seven = refl

pub unplaces_of_seven : unplace 7 0 4 ∷ unplace 7 0 0 ∷ [] ≡ 0 ∷ 6 ∷ []
unfolding philox4x32_10 next_key round_key philox_round philox_rounds keyed_number least least_from iterate first_below height_of width_of round_number round rounds mix place unplace inverse_below
unplaces_of_seven = refl
