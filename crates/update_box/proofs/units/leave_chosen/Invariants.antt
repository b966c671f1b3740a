use Rattle.update_box.proofs.UnitLemmas.{AreLeft}
use Rattle.update_box.proofs.units.leave_chosen.Given as goal

abbrev pub invariant-loop-place : goal.invariant-loop-place
invariant-loop-place l = AreLeft l.table l.place l.initial.tables.items l.tables.items
