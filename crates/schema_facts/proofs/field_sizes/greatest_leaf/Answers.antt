use Rattle.std.proofs.Common.{◌≡◌, ◌∙◌, ap, sym, arith, max}
use Rattle.std.proofs.lemmas.Grind.{common_steps}
use Rattle.std.proofs.lemmas.List.{take_all}
use Rattle.std.proofs.lemmas.List.Folds.{fold-map}
use Rattle.schema_model.specs.declared.column.Leaf.{Leaf}
use Rattle.schema_facts.specs.Capped.{capped}
use Rattle.schema_facts.specs.FieldSizes.{greatest_by, leaf_size}
use Rattle.schema_facts.specs.Layout.{LeafLayout, leaf_layout}
use Rattle.schema_facts.proofs.Capping.{capped_greatest_more}
use Rattle.schema_facts.proofs.field_sizes.greatest_leaf.Goals as goal

pub loop-leaf-preserved : goal.loop-leaf-preserved
loop-leaf-preserved c =
    let dictionaries = c.args.dictionaries.now in
    let size = λ (leaf : Leaf). leaf_size c.args.delimiter (leaf_layout dictionaries leaf) in
    let greater : c.max-most.result ≡ max c.loop-leaf.most c.leaf_size.result = grind (arith, common_steps) in
    greater
    ∙ ap (max c.loop-leaf.most) (c.leaf_size.ensures ∙ ap (λ leaf. capped (size leaf)) c.leaf-item.is)
    ∙ capped_greatest_more size c.args.leaves.now c.loop-leaf.leaf-index c.leaf-item.result c.loop-leaf.most c.loop-leaf-test.true c.loop-leaf.invariant

pub returns : goal.returns
returns c =
    let dictionaries = c.args.dictionaries.now in
    let size = λ (leaf : Leaf). leaf_size c.args.delimiter (leaf_layout dictionaries leaf) in
    c.loop-leaf.invariant
    ∙ ap (λ leaves. capped (greatest_by size leaves)) (take_all c.loop-leaf.leaf-index c.args.leaves.now c.loop-leaf-test.false)
    ∙ ap capped (sym (fold-map (λ most (leaf : LeafLayout). max most (leaf_size c.args.delimiter leaf)) (leaf_layout dictionaries) 0 c.args.leaves.now))
