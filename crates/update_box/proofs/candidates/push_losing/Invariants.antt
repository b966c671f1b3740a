use Rattle.life_intervals.specs.CohortParents.{reference_by}
use Rattle.update_box.proofs.ChildLemmas.{AreChildrenBefore}
use Rattle.update_box.proofs.candidates.push_losing.Given as goal

abbrev pub invariant-loop-unit : goal.invariant-loop-unit
invariant-loop-unit g l = AreChildrenBefore l.rows l.table l.t (reference_by l.column l.reference) l.unit l.initial.list.items l.list.items l.initial.steps l.steps
