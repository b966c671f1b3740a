use Rattle.std.proofs.Common.{◌≡◌, length}
use Rattle.update_box.proofs.NeededLemmas.{AreMarked}
use Rattle.update_box.proofs.needed.mark_parents.Given as goal

abbrev pub invariant-loop-ready : goal.invariant-loop-ready
invariant-loop-ready l = record {
  all : length l.marks.items ≡ length l.initial.marks.items;
  marked : AreMarked l.plan l.place l.ready-index l.initial.marks.items l.marks.items;
}
