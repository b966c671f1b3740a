use Rattle.std.proofs.Common.{◌+◌}
use Rattle.weight_tables.specs.PrefixSums.{weights_of}
use Rattle.weight_tables.specs.Finders.{ArePassed}
use Rattle.weight_tables.proofs.FinderLemmas.{passed-within, passed-more, Selects-reached}
use Rattle.weight_tables.proofs.finders.search_from.Goals as goal

pub loop-group-init : goal.loop-group-init
loop-group-init c = record {
  within = passed-within c.args.sums.now c.args.x c.args.first c.requires.sums c.requires.number c.requires.passed;
  passed = c.requires.passed;
}

pub loop-group-preserved : goal.loop-group-preserved
loop-group-preserved c =
    let sums = c.args.sums.now in
    let group = c.loop-group.group in
    let more : ArePassed (weights_of sums) (group + 1) c.args.x =
    passed-more sums c.args.x group c.requires.sums c.loop-group.invariant.within c.loop-group-test.true c.loop-group.invariant.passed
    in
    record {
      within = passed-within sums c.args.x (group + 1) c.requires.sums c.requires.number more;
      passed = more;
    }

pub returns : goal.returns
returns c =
    Selects-reached c.args.sums.now c.args.x c.loop-group.group c.requires.sums c.loop-group.invariant.within c.loop-group-test.false c.loop-group.invariant.passed
