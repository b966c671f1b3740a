use Rattle.std.proofs.Common.{◌≡◌, ℕ, ◌*◌, ◌^◌, ◌<◌, get_or, length}
use Rattle.weight_tables.specs.PrefixSums.{weights_of}
use Rattle.weight_tables.specs.Finders.{ArePassed}
use Rattle.weight_tables.proofs.finders.first_groups.Given as goal

abbrev pub invariant-loop-slice : goal.invariant-loop-slice
invariant-loop-slice l = record {
  passed : ArePassed (weights_of l.sums) l.group (l.slice * 2 ^ l.shift);
  long : length l.firsts.items ≡ l.slice;
  each : (k : ℕ) → k < l.slice → ArePassed (weights_of l.sums) (get_or l.firsts.items k 0) (k * 2 ^ l.shift);
}
