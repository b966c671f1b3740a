use Rattle.std.proofs.Common.{◌≡◌}
use Rattle.id_permutation.proofs.WalkLaws.{LiesAhead-more, LiesAhead-ended, steps_left-falls}
use Rattle.id_permutation.proofs.PlacementLaws.{unmix, unmix-is, unplace-ahead}
use Rattle.id_permutation.proofs.table_network.walk_back.Goals as goal

pub loop-number-init : goal.loop-number-init
loop-number-init c =
    let network = c.args.network in
    record {
      within = c.requires.within;
      ahead = unplace-ahead _ _ _ _ network.some c.requires.below (unmix-is _ _ _ _ _ _ network.some network.tall network.wide c.requires.within c.requires.unmixed);
    }

pub loop-number-smaller : goal.loop-number-smaller
loop-number-smaller c =
    let network = c.args.network in
    let back : c.unmix-number.result ≡ unmix network.size network.seed c.loop-number.number =
    unmix-is _ _ _ _ _ _ network.some network.tall network.wide c.unmix-number.ensures.within c.unmix-number.ensures.undone in
    steps_left-falls _ _ _ _ _ _ back c.loop-number-test.true c.loop-number.invariant.ahead

pub loop-number-preserved : goal.loop-number-preserved
loop-number-preserved c =
    let network = c.args.network in
    let back : c.unmix-number.result ≡ unmix network.size network.seed c.loop-number.number =
    unmix-is _ _ _ _ _ _ network.some network.tall network.wide c.unmix-number.ensures.within c.unmix-number.ensures.undone in
    record {
      within = c.unmix-number.ensures.within;
      ahead = LiesAhead-more _ _ _ _ _ _ back c.loop-number-test.true c.loop-number.invariant.ahead;
    }

pub returns : goal.returns
returns c = record { exact = LiesAhead-ended _ _ _ _ _ c.loop-number-test.false c.loop-number.invariant.ahead }
