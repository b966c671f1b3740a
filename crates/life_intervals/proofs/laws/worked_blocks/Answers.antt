use Rattle.std.proofs.Common.{refl}
use Rattle.weight_tables.specs.Weights.{selected}
use Rattle.life_intervals.proofs.laws.worked_blocks.Goals as goal

pub returns : goal.returns
unfolding selected
returns c = record {
  first_places = refl;
  second_places = refl;
  third_places = refl;
  fourth_places = refl;
  first_candidate = refl;
  third_candidate = refl;
  second_of_eleven = refl;
  third_of_eleven = refl;
}
