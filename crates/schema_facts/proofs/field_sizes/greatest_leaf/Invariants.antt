use Rattle.std.proofs.Common.{◌≡◌, take}
use Rattle.schema_facts.specs.Capped.{capped}
use Rattle.schema_facts.specs.FieldSizes.{greatest_by, leaf_size}
use Rattle.schema_facts.specs.Layout.{leaf_layout}
use Rattle.schema_facts.proofs.field_sizes.greatest_leaf.Given as goal

abbrev pub invariant-loop-leaf : goal.invariant-loop-leaf
invariant-loop-leaf l =
    l.most ≡ capped (greatest_by (λ leaf. leaf_size l.delimiter (leaf_layout l.dictionaries leaf)) (take l.leaf-index l.leaves))
