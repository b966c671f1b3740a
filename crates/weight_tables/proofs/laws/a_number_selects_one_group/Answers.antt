use Rattle.weight_tables.proofs.SelectionLemmas.{Selects-selected, Selects-unique}
use Rattle.weight_tables.proofs.laws.a_number_selects_one_group.Goals as goal

pub returns : goal.returns
returns c = record { one = Selects-selected; no_other = Selects-unique }
