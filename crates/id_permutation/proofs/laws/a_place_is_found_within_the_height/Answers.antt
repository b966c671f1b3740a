use Rattle.id_permutation.proofs.PlacementLaws.{place-first, number-first}
use Rattle.id_permutation.proofs.laws.a_place_is_found_within_the_height.Goals as goal

pub returns-clause-of_a_number : goal.returns-clause-of_a_number
returns-clause-of_a_number c n seed x some below = place-first n seed x some below

pub returns-clause-of_an_inverse : goal.returns-clause-of_an_inverse
returns-clause-of_an_inverse c n seed y some below = number-first n seed y some below
