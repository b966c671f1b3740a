use Rattle.std.proofs.Common.{◌≡◌, ℕ, List, flat_map, take}
use Rattle.std.specs.List.{fold}
use Rattle.schema_plan.specs.Citations.{names_in_leaf, with_name}
use Rattle.schema_plan.proofs.cited_names.CitedNames.add_leaves.Given as goal

abbrev pub invariant-loop-leaf : goal.invariant-loop-leaf
invariant-loop-leaf l =
    (before : List (List ℕ)) → l.fn.self ≡ take 64 before →
    l.self ≡ take 64 (fold with_name before (flat_map names_in_leaf (take l.leaf-index l.leaves)))
