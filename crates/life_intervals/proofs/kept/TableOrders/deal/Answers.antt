use Rattle.std.proofs.Common.{arith}
use Rattle.life_intervals.specs.declared.kept.ParentOrders.{ParentOrders}
use Rattle.life_intervals.specs.CohortParents.{deal_by}
use Rattle.life_intervals.specs.JobOrders.{AreParentOrders}
use Rattle.life_intervals.proofs.KeptLemmas.{kept-found}
use Rattle.life_intervals.proofs.kept.TableOrders.deal.Goals as goal

pub returns-then-unit-len : goal.returns-then-unit-len
returns-then-unit-len c = λ plan table reference are of.
    let kept : ParentOrders = c.in_ok-parents.parents.now in
    let is : AreParentOrders plan table c.args.column kept = grind (arith, are.parents, c.in_ok-parents.ensures, c.deref.ensures.value) in
    kept-found (deal_by plan table c.args.column reference) kept.deals.orders c.args.unit c.get-then-unit-len.result (is.deals reference of)
    (omega (arith, c.if-unit-len.true, c.len.ensures)) c.get-then-unit-len.ensures
