use Rattle.std.proofs.Common.{sym, subst}
use Rattle.detail_plan.specs.Limits.{AreMadeOfEarlier}
use Rattle.detail_plan.proofs.Accepted.{made_of_earlier}
use Rattle.detail_plan.proofs.laws.columns_are_made_of_earlier_ones.Goals as goal

pub returns : goal.returns
returns c = λ plan kept keeps.
    subst (λ facts. AreMadeOfEarlier plan facts kept.detail) (sym keeps.facts) (made_of_earlier plan kept.lists kept.detail keeps.keeps)
