use Rattle.id_permutation.proofs.WalkLaws.{LiesAhead-more, LiesAhead-ended, steps_left-falls}
use Rattle.id_permutation.proofs.PlacementLaws.{place-ahead}
use Rattle.id_permutation.proofs.table_network.walk_on.Goals as goal

pub loop-place-init : goal.loop-place-init
loop-place-init c = record {
  within = c.requires.within;
  ahead = place-ahead _ _ _ _ c.args.network.some c.requires.below c.requires.mixed;
}

pub loop-place-smaller : goal.loop-place-smaller
loop-place-smaller c = steps_left-falls _ _ _ _ _ _ c.mix-place.ensures.exact c.loop-place-test.true c.loop-place.invariant.ahead

pub loop-place-preserved : goal.loop-place-preserved
loop-place-preserved c = record {
  within = c.mix-place.ensures.within;
  ahead = LiesAhead-more _ _ _ _ _ _ c.mix-place.ensures.exact c.loop-place-test.true c.loop-place.invariant.ahead;
}

pub returns : goal.returns
returns c = record { exact = LiesAhead-ended _ _ _ _ _ c.loop-place-test.false c.loop-place.invariant.ahead }
