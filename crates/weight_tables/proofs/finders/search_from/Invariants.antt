use Rattle.std.proofs.Common.{◌-◌, ◌<◌, length}
use Rattle.weight_tables.specs.PrefixSums.{weights_of}
use Rattle.weight_tables.specs.Finders.{ArePassed}
use Rattle.weight_tables.proofs.finders.search_from.Given as goal

abbrev pub invariant-loop-group : goal.invariant-loop-group
invariant-loop-group l = record {
  within : l.group < length l.sums;
  passed : ArePassed (weights_of l.sums) l.group l.x;
}

abbrev pub decreases-loop-group : goal.decreases-loop-group
decreases-loop-group l = length l.sums - l.group
