use Rattle.weight_tables.specs.Finders.{IsGuide, IsTable}
use Rattle.weight_tables.specs.PrefixSums.{weights_of}
use Rattle.weight_tables.proofs.PrefixSumLemmas.{weights_of-made, ArePrefixSums-made}
use Rattle.weight_tables.proofs.weights.Weights.new.Goals as goal

pub group_table-requires : goal.group_table-requires
group_table-requires c =
    rw c.deref.ensures.value
    (ArePrefixSums-made c.in_ok-prefix_sums.prefix_sums.items c.args.list.now c.in_ok-prefix_sums.ensures c.requires.some c.requires.positive c.requires.small)

pub slice_shift-shift-requires : goal.slice_shift-shift-requires
slice_shift-shift-requires c =
    rw c.deref-2.ensures.value
    (ArePrefixSums-made c.in_ok-prefix_sums.prefix_sums.items c.args.list.now c.in_ok-prefix_sums.ensures c.requires.some c.requires.positive c.requires.small)

pub first_groups-requires-clause-sums : goal.first_groups-requires-clause-sums
first_groups-requires-clause-sums c =
    rw c.deref-3.ensures.value
    (ArePrefixSums-made c.in_ok-prefix_sums.prefix_sums.items c.args.list.now c.in_ok-prefix_sums.ensures c.requires.some c.requires.positive c.requires.small)

pub invariant_of-result : goal.invariant_of-result
invariant_of-result c =
    let sums = c.in_ok-prefix_sums.prefix_sums.items in
    let tabled : IsTable (weights_of sums) c.in_ok-table.table.items = rw c.deref.ensures.value at c.in_ok-table.ensures in
    let guided : IsGuide (weights_of sums) c.in_ok-first_groups.first_groups.items c.slice_shift-shift.result = rw c.deref-3.ensures.value at c.in_ok-first_groups.ensures in
    record {
      kept = ArePrefixSums-made sums c.args.list.now c.in_ok-prefix_sums.ensures c.requires.some c.requires.positive c.requires.small;
      tabled = tabled;
      guided = guided;
    }

pub returns : goal.returns
returns c = weights_of-made c.in_ok-prefix_sums.prefix_sums.items c.args.list.now c.in_ok-prefix_sums.ensures
