use Rattle.std.proofs.Common.{length}
use Rattle.range_workers.specs.Workshop.{IsSameShop}
use Rattle.range_workers.proofs.ComingBack.{IsComingBack}
use Rattle.range_workers.proofs.workshop.Workshop.run_round.Given as goal

abbrev pub invariant-loop-self : goal.invariant-loop-self
invariant-loop-self g l = record {
  back : IsComingBack (g.P.Packer.text l.packer) l.fn.round l.self;
  same : IsSameShop l.fn.self l.self;
}

abbrev pub decreases-loop-self : goal.decreases-loop-self
decreases-loop-self g l = length l.self.workers.items
