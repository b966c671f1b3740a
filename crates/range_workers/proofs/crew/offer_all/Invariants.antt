use Rattle.std.proofs.Common.{◌≡◌, ℕ, List, length}
use Rattle.std.specs.Prelude.{vec_capacity}
use Rattle.range_workers.specs.declared.work.RoundClaims.{RoundClaims}
use Rattle.range_workers.specs.Crew.{IsOffering}
use Rattle.range_workers.proofs.crew.offer_all.Given as goal

abbrev pub invariant-loop-made : goal.invariant-loop-made
invariant-loop-made l = record {
  offered : (text : ℕ → List ℕ) (room : ℕ) (round : RoundClaims) → IsOffering text room round l.fn.made.items l.fn.ordered → IsOffering text room round l.made.items l.ordered;
  capacity : l.ordered.capacity ≡ l.fn.ordered.capacity;
  made_fit : vec_capacity l.made ≡ vec_capacity l.fn.made;
}

abbrev pub decreases-loop-made : goal.decreases-loop-made
decreases-loop-made l = length l.made.items
