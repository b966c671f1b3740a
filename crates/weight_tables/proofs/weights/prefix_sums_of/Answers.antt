use Rattle.std.proofs.Common.{◌≡◌, sum, take, take_all, ap, ◌∙◌, arith, rules}
use Rattle.std.proofs.lemmas.List.Sums.{sum_by_more}
use Rattle.weight_tables.specs.PrefixSums.{prefix_sums, prefix_sums_from}
use Rattle.weight_tables.proofs.PrefixSumLemmas.{prefix_sums-more}
use Rattle.weight_tables.proofs.weights.prefix_sums_of.Goals as goal

pub loop-weight-init : goal.loop-weight-init
unfolding prefix_sums_from
loop-weight-init c = record { summed = search rules; pushed = c.in_ok-sums.ensures.items }

pub loop-weight-preserved : goal.loop-weight-preserved
loop-weight-preserved c =
    let list = c.args.list.now in
    let i = c.loop-weight.weight-index in
    let summed : c.loop-weight.sum ≡ sum (take i list) = c.loop-weight.invariant.summed in
    let more = prefix_sums-more list i c.loop-weight.sum c.loop-weight-test.true summed in
    record {
      summed = omega (arith, sum_by_more (λ x. x) list i 0 c.loop-weight-test.true);
      pushed = rw (more, ← c.loop-weight.invariant.pushed) c.in_ok-push.ensures.items;
    }

whole : (c : goal.After-loop-weight) → c.loop-weight.sums.items ≡ prefix_sums c.args.list.now
whole c = c.loop-weight.invariant.pushed ∙ ap prefix_sums (take_all c.loop-weight.weight-index c.args.list.now c.loop-weight-test.false)

pub returns : goal.returns
returns c = whole c
