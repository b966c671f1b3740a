use Rattle.std.proofs.Common.{◌≡◌, sum, take}
use Rattle.weight_tables.specs.PrefixSums.{prefix_sums}
use Rattle.weight_tables.proofs.weights.prefix_sums_of.Given as goal

abbrev pub invariant-loop-weight : goal.invariant-loop-weight
invariant-loop-weight l = record {
  summed : l.sum ≡ sum (take l.weight-index l.list);
  pushed : l.sums.items ≡ prefix_sums (take l.weight-index l.list);
}
