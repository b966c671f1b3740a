use Rattle.std.proofs.Common.{◌≡◌, true, take}
use Rattle.std.specs.List.{list_all}
use Rattle.draw_values.specs.Runs.{is_short_leaf}
use Rattle.draw_values.proofs.kept.are_short_leaves.Given as goal

abbrev pub invariant-loop-leaf : goal.invariant-loop-leaf
invariant-loop-leaf l = list_all is_short_leaf (take l.leaf-index l.leaves) ≡ true
