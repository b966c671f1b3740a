use Rattle.std.proofs.Common.{◌≡◌, length}
use Rattle.range_workers.specs.Seats.{view}
use Rattle.range_workers.specs.Views.{numbers}
use Rattle.range_workers.specs.Workshop.{IsGoingOut, IsSameShop}
use Rattle.range_workers.proofs.workshop.Workshop.set_out.Given as goal

abbrev pub invariant-loop-self : goal.invariant-loop-self
invariant-loop-self l = record {
  out : IsGoingOut l.self;
  same : IsSameShop l.fn.self l.self;
  numbers : numbers (view l.self.seat) ≡ numbers (view l.fn.self.seat);
}

abbrev pub decreases-loop-self : goal.decreases-loop-self
decreases-loop-self l = length l.self.benches.items
