use Rattle.std.proofs.Common.{◌≡◌, ◌+◌, ℕ, length}
use Rattle.std.specs.Prelude.{All, vec_capacity}
use Rattle.range_workers.specs.Round.{HasRoom}
use Rattle.range_workers.proofs.workshop.deal.Given as goal

abbrev pub invariant-loop : goal.invariant-loop
invariant-loop l = record {
  rooms : (room : ℕ) → All (HasRoom room) l.fn.from.items → All (HasRoom room) l.to.items × All (HasRoom room) l.from.items;
  dealt : length l.to.items ≡ l.counter;
  left : length l.from.items + l.counter ≡ length l.fn.from.items;
  to_fit : vec_capacity l.to ≡ vec_capacity l.fn.to;
  from_fit : vec_capacity l.from ≡ vec_capacity l.fn.from;
}
