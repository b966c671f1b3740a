use Rattle.std.proofs.Common.{◌≡◌, ◌≤◌, length}
use Rattle.std.specs.Prelude.{All, vec_capacity}
use Rattle.range_workers.specs.Round.{HasRoom}
use Rattle.range_workers.proofs.workshop.new_pages.Given as goal

abbrev pub invariant-loop : goal.invariant-loop
invariant-loop l = record {
  rooms : All (HasRoom l.room) l.pages.items;
  count : length l.pages.items ≡ l.counter;
  fit : l.count ≤ vec_capacity l.pages;
}
