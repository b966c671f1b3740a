use Rattle.std.proofs.Common.{◌≡◌, ◌-◌, ◌<◌, length, get_or, sum, arith}
use Rattle.weight_tables.specs.PrefixSums.{weights_of}
use Rattle.weight_tables.proofs.PrefixSumLemmas.{prefix_sums_length, last_prefix_sum, sum-positive}
use Rattle.weight_tables.proofs.finders.last_sum.Goals as goal

pub overflow_sub-result : goal.overflow_sub-result
overflow_sub-result c =
    let some : 0 < length (weights_of c.args.sums.now) = c.requires.some in
    omega (arith, prefix_sums_length c.args.sums.now c.requires)

pub bounds-sums-sums : goal.bounds-sums-sums
bounds-sums-sums c =
    let some : 0 < length (weights_of c.args.sums.now) = c.requires.some in
    omega (arith, prefix_sums_length c.args.sums.now c.requires)

pub returns : goal.returns
returns c =
    let sums = c.args.sums.now in
    let is_sum : get_or sums (length sums - 1) 0 ≡ sum (weights_of sums) = last_prefix_sum sums 0 c.requires in
    record {
      exact = is_sum;
      some = omega (arith, is_sum, sum-positive sums c.requires);
      small = omega (arith, is_sum, c.requires.small);
    }
