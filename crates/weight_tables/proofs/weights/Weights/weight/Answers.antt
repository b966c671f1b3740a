use Rattle.std.proofs.Common.{◌≡◌, ◌+◌, List, ℕ, ap, arith, get_or, length, ◌∙◌}
use Rattle.weight_tables.specs.Weights.{prefix_sum}
use Rattle.weight_tables.proofs.PrefixSumLemmas.{prefix_sum-split, prefix_sums_at, prefix_sums_length}
use Rattle.weight_tables.proofs.weights.Weights.weight.Goals as goal

pub index-requires : goal.index-requires
index-requires c =
    let kept = prefix_sums_length c.self.inside.prefix_sums.items c.self.invariant.kept in
    omega (arith, kept, c.self.inside.prefix_sums.ok.0, ap length c.self.view_is)

-- its prefix sum is what stands before it and its weight
split : (c : goal.After-weight_before) → c.index.result.now ≡ c.weight_before.result + get_or c.args.self.now c.args.group 0
split c =
    let at : c.index.result.now ≡ prefix_sum c.args.self.now c.args.group =
    c.index.ensures
    ∙ prefix_sums_at c.self.inside.prefix_sums.items c.args.group c.index.result.now c.self.invariant.kept (omega (arith, ap length c.self.view_is))
    ∙ ap (λ (weights : List ℕ). prefix_sum weights c.args.group) c.self.view_is in
    omega (arith, at, prefix_sum-split c.args.self.now c.args.group c.requires, c.weight_before.ensures.exact)

pub overflow_sub-result : goal.overflow_sub-result
overflow_sub-result c = omega (arith, split c)

pub returns : goal.returns
returns c = omega (arith, split c)
