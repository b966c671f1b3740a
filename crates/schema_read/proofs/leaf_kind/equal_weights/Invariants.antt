use Rattle.std.proofs.Common.{◌≡◌, map, pos, take}
use Rattle.schema_read.proofs.leaf_kind.equal_weights.Given as goal

abbrev pub invariant-loop-entry : goal.invariant-loop-entry
invariant-loop-entry l = l.weights ≡ map (λ _. pos 1) (take l.entry-index l.entries)
