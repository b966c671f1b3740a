use Rattle.std.proofs.Common.{◌≡◌, ◌+◌, ◌-◌, List, ℕ, ap, arith, length, ◌∙◌}
use Rattle.weight_tables.specs.Weights.{prefix_sum, weight_before}
use Rattle.weight_tables.proofs.PrefixSumLemmas.{prefix_sum-le-sum, prefix_sums_at, prefix_sums_length}
use Rattle.weight_tables.proofs.weights.Weights.weight_before.Goals as goal

pub index-requires : goal.index-requires
index-requires c =
    let kept = prefix_sums_length c.self.inside.prefix_sums.items c.self.invariant.kept in
    omega (arith, kept, c.self.inside.prefix_sums.ok.0, ap length c.self.view_is)

-- the prefix sum of the group before
before : (c : goal.After-row_known-1) → c.index.result.now ≡ weight_before c.args.self.now (c.args.group - 1 + 1)
before c =
    c.index.ensures
    ∙ prefix_sums_at c.self.inside.prefix_sums.items (c.args.group - 1) c.index.result.now c.self.invariant.kept (omega (arith, ap length c.self.view_is))
    ∙ ap (λ (weights : List ℕ). prefix_sum weights (c.args.group - 1)) c.self.view_is

pub returns-clause-exact : goal.returns-clause-exact
returns-clause-exact c =
    let last : c.args.group - 1 + 1 ≡ c.args.group = omega arith in
    before c ∙ ap (weight_before c.args.self.now) last

pub returns-clause-within : goal.returns-clause-within
returns-clause-within c = omega (arith, before c, prefix_sum-le-sum c.args.self.now (c.args.group - 1))
