use Rattle.std.proofs.Common.{◌≡◌, ◌+◌, ◌<◌, sum, arith}
use Rattle.weight_tables.specs.PrefixSums.{weights_of}
use Rattle.weight_tables.specs.Weights.{selected}
use Rattle.weight_tables.proofs.PrefixSumLemmas.{prefix_sums_length}
use Rattle.weight_tables.proofs.FinderLemmas.{groups-few, passed-later, selected-is, length-pushed, each-pushed}
use Rattle.weight_tables.proofs.finders.group_table.Goals as goal

pub overflow_cast-group : goal.overflow_cast-group
overflow_cast-group c =
    let sums = c.args.sums.now in
    omega (
      arith,
      groups-few sums c.requires,
      prefix_sums_length sums c.requires,
      c.search_from-group.ensures.within,
      c.last_sum-total.ensures.exact,
      c.if-total-gt-TABLE.false,
    )

pub loop-x-preserved : goal.loop-x-preserved
loop-x-preserved c =
    let weights = weights_of c.args.sums.now in
    let x = c.loop-x.x in
    let group = c.search_from-group.result in
    let below : x < sum weights = omega (arith, c.last_sum-total.ensures.exact) in
    let is : group ≡ selected weights x = selected-is weights x group below c.search_from-group.ensures in
    record {
      passed = passed-later weights group x (x + 1) (omega arith) c.search_from-group.ensures.first;
      long = length-pushed c.loop-x.table.items c.push.new.self.items x group c.loop-x.invariant.long c.in_ok-push.ensures.items;
      each = each-pushed (selected weights) c.loop-x.table.items c.push.new.self.items x group c.loop-x.invariant.long c.in_ok-push.ensures.items is c.loop-x.invariant.each;
    }
