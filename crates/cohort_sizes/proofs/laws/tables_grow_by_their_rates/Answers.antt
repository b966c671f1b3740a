use Rattle.std.proofs.Common.{◌≡◌, ◌+◌, ◌-◌, ap, arith, sym, ◌∙◌}
use Rattle.cohort_sizes.specs.Births.{first_ordinal}
use Rattle.cohort_sizes.proofs.StretchLemmas.{first_ordinal-stretch}
use Rattle.cohort_sizes.proofs.laws.tables_grow_by_their_rates.Goals as goal

pub returns : goal.returns
returns c births from until rate within sizes =
    let at : from + (until - from) ≡ until = omega (arith, within) in
    sym (ap (first_ordinal births) at)
    ∙ first_ordinal-stretch births from rate (until - from) (λ unit begun below. sizes unit begun (omega (arith, below, at)))
