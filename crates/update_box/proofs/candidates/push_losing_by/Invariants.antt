use Rattle.update_box.proofs.ReferenceFilterLemmas.{AreLosingBefore}
use Rattle.update_box.proofs.candidates.push_losing_by.Given as goal

abbrev pub invariant-loop-column : goal.invariant-loop-column
invariant-loop-column g l = AreLosingBefore l.rows l.table l.t l.on_delete l.column l.initial.list.items l.list.items l.initial.steps l.steps
