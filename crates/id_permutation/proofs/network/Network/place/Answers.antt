use Rattle.id_permutation.proofs.WalkLaws.{LiesAhead-more, LiesAhead-ended, steps_left-falls}
use Rattle.id_permutation.proofs.PlacementLaws.{below-area, place-ahead}
use Rattle.id_permutation.proofs.network.Network.place.Goals as goal

pub mix-place-requires : goal.mix-place-requires
mix-place-requires c = record {
  within = below-area _ _ _ _ c.args.self.now.some c.args.self.now.tall c.args.self.now.wide c.requires.below;
}

pub loop-place-init : goal.loop-place-init
loop-place-init c = record {
  within = c.mix-place.ensures.within;
  ahead = place-ahead c.args.self.now.size c.args.self.now.seed c.args.number _ c.args.self.now.some c.requires.below c.mix-place.ensures.exact;
}

pub loop-place-smaller : goal.loop-place-smaller
loop-place-smaller c = steps_left-falls _ _ _ _ _ _ c.mix-place-in-loop-place.ensures.exact c.loop-place-test.true c.loop-place.invariant.ahead

pub loop-place-preserved : goal.loop-place-preserved
loop-place-preserved c = record {
  within = c.mix-place-in-loop-place.ensures.within;
  ahead = LiesAhead-more _ _ _ _ _ _ c.mix-place-in-loop-place.ensures.exact c.loop-place-test.true c.loop-place.invariant.ahead;
}

pub returns : goal.returns
returns c = record {
  exact = LiesAhead-ended _ _ _ _ _ c.loop-place-test.false c.loop-place.invariant.ahead;
}
