use Rattle.std.proofs.Common.{[], ◌∷◌, add-one, ap, ◌∙◌}
use Rattle.cohort_sizes.specs.Births.{first_ordinal}
use Rattle.cohort_sizes.proofs.StretchLemmas.{first_ordinal-one_rate}
use Rattle.cohort_sizes.proofs.laws.one_rate_grows_evenly.Goals as goal

pub returns : goal.returns
returns c rows rate unit = ap (first_ordinal (record { rows = rows; rates = record { from = 1; rows = rate } ∷ [] })) (add-one unit) ∙ first_ordinal-one_rate rows rate unit
