use Rattle.weight_tables.proofs.SelectionLemmas.{Selects-place, count_by-selected}
use Rattle.weight_tables.proofs.laws.a_group_takes_its_weight_of_the_numbers.Goals as goal

pub returns : goal.returns
returns c = record { place = Selects-place; count = count_by-selected }
