use Rattle.std.proofs.Common.{ℕ, List, [], ◌∷◌, ◌++◌, ◌+◌, ap, ◌∙◌}
use Rattle.life_intervals.proofs.AppendLemmas.{push-range}
use Rattle.life_intervals.proofs.children.push_block.Goals as goal

pub loop-i-preserved : goal.loop-i-preserved
loop-i-preserved c =
    c.in_ok-push.ensures.items
    ∙ ap (λ (xs : List ℕ). xs ++ (c.args.block.first + c.loop-i.i) ∷ []) c.loop-i.invariant
    ∙ push-range c.args.places.now.items c.args.block.first c.loop-i.i
