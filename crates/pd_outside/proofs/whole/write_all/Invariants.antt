use Rattle.std.proofs.Common.{length, ◌-◌, ◌≡◌, ◌≤◌, true, take}
use Rattle.std.specs.Option.{option_map}
use Rattle.pd_outside.specs.Faults.{Unfailed}
use Rattle.pd_outside.specs.Shelf.{append_bytes}
use Rattle.pd_outside.proofs.whole.write_all.Given as goal

abbrev pub invariant-loop-at : goal.invariant-loop-at
invariant-loop-at g l =
    (l.at ≤ length l.bytes) × (g.S.Shelf.held l.shelf ≡ option_map (append_bytes (take l.at l.bytes)) (g.S.Shelf.held l.fn.shelf)) × (g.S.Shelf.is_begun l.shelf ≡ true) × Unfailed (g.S.Shelf.counts l.fn.shelf) (g.S.Shelf.counts l.shelf)

abbrev pub decreases-loop-at : goal.decreases-loop-at
decreases-loop-at g l = length l.bytes - l.at
