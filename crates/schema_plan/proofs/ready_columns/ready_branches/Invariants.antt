use Rattle.std.proofs.Common.{◌≡◌, map, take}
use Rattle.schema_model.specs.declared.column.Leaf.{Leaf}
use Rattle.schema_facts.specs.Layout.{leaf_layout}
use Rattle.schema_plan.specs.Ready.{ready_leaf}
use Rattle.schema_plan.proofs.ready_columns.ready_branches.Given as goal

abbrev pub invariant-loop-branch : goal.invariant-loop-branch
invariant-loop-branch l =
    l.ready ≡ map (λ (leaf : Leaf). ready_leaf l.lexicon.delimiter (leaf_layout l.lexicon.dictionaries leaf)) (take l.branch-index l.branches)
