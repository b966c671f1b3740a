use Rattle.std.proofs.Common.{◌≡◌}
use Rattle.id_permutation.proofs.WalkLaws.{LiesAhead-more, LiesAhead-ended, steps_left-falls}
use Rattle.id_permutation.proofs.PlacementLaws.{below-area, unmix, unmix-is, unplace-ahead}
use Rattle.id_permutation.proofs.network.Network.unplace.Goals as goal

pub unmix-number-requires : goal.unmix-number-requires
unmix-number-requires c = record {
  within = below-area _ _ _ _ c.args.self.now.some c.args.self.now.tall c.args.self.now.wide c.requires.below;
}

pub loop-number-init : goal.loop-number-init
loop-number-init c =
    let network = c.args.self.now in
    let back : c.unmix-number.result ≡ unmix network.size network.seed c.args.place =
    unmix-is _ _ _ _ _ _ network.some network.tall network.wide c.unmix-number.ensures.within c.unmix-number.ensures.undone in
    record {
      within = c.unmix-number.ensures.within;
      ahead = unplace-ahead network.size network.seed c.args.place _ network.some c.requires.below back;
    }

pub loop-number-smaller : goal.loop-number-smaller
loop-number-smaller c =
    let network = c.args.self.now in
    let next = c.unmix-number-in-loop-number in
    let back : next.result ≡ unmix network.size network.seed c.loop-number.number =
    unmix-is _ _ _ _ _ _ network.some network.tall network.wide next.ensures.within next.ensures.undone in
    steps_left-falls _ _ _ _ _ _ back c.loop-number-test.true c.loop-number.invariant.ahead

pub loop-number-preserved : goal.loop-number-preserved
loop-number-preserved c =
    let network = c.args.self.now in
    let next = c.unmix-number-in-loop-number in
    let back : next.result ≡ unmix network.size network.seed c.loop-number.number =
    unmix-is _ _ _ _ _ _ network.some network.tall network.wide next.ensures.within next.ensures.undone in
    record {
      within = next.ensures.within;
      ahead = LiesAhead-more _ _ _ _ _ _ back c.loop-number-test.true c.loop-number.invariant.ahead;
    }

pub returns : goal.returns
returns c = record {
  exact = LiesAhead-ended _ _ _ _ _ c.loop-number-test.false c.loop-number.invariant.ahead;
}
