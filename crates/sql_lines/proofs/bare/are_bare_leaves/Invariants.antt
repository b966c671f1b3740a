use Rattle.std.proofs.Common.{◌≡◌, true, take}
use Rattle.std.specs.List.{list_all}
use Rattle.sql_lines.specs.Bare.{is_bare_ready_leaf}
use Rattle.sql_lines.proofs.bare.are_bare_leaves.Given as goal

abbrev pub invariant-loop-leaf : goal.invariant-loop-leaf
invariant-loop-leaf l = list_all is_bare_ready_leaf (take l.leaf-index l.leaves) ≡ true
