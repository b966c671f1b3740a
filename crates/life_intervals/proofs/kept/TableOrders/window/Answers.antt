use Rattle.std.proofs.Common.{arith, ◌∙◌}
use Rattle.life_intervals.specs.declared.kept.ParentOrders.{ParentOrders}
use Rattle.life_intervals.specs.CohortParents.{window_by}
use Rattle.life_intervals.specs.JobOrders.{AreParentOrders}
use Rattle.life_intervals.proofs.KeptLemmas.{kept-at}
use Rattle.life_intervals.proofs.kept.TableOrders.window.Goals as goal

pub returns-then-unit-len : goal.returns-then-unit-len
returns-then-unit-len c = λ plan table reference are of.
    let kept : ParentOrders = c.in_ok-parents.parents.now in
    let is : AreParentOrders plan table c.args.column kept = grind (arith, are.parents, c.in_ok-parents.ensures, c.deref.ensures.value) in
    c.index.ensures
    ∙ kept-at (window_by plan reference) kept.windows.items c.args.unit c.index.result.now (is.windows reference of) (omega (arith, c.if-unit-len.true, c.len.ensures))
