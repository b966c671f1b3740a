use Rattle.std.proofs.Common.{◌≡◌, ℕ, ◌<◌, get_or, length}
use Rattle.weight_tables.specs.PrefixSums.{weights_of}
use Rattle.weight_tables.specs.Weights.{selected}
use Rattle.weight_tables.specs.Finders.{ArePassed}
use Rattle.weight_tables.proofs.finders.group_table.Given as goal

abbrev pub invariant-loop-x : goal.invariant-loop-x
invariant-loop-x l = record {
  passed : ArePassed (weights_of l.sums) l.group l.x;
  long : length l.table.items ≡ l.x;
  each : (y : ℕ) → y < l.x → get_or l.table.items y 0 ≡ selected (weights_of l.sums) y;
}
