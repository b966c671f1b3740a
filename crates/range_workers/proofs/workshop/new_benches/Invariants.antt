use Rattle.std.proofs.Common.{◌≡◌, ◌≤◌, length}
use Rattle.std.specs.Prelude.{All, vec_capacity}
use Rattle.range_workers.specs.Workshop.{IsCleared}
use Rattle.range_workers.proofs.workshop.new_benches.Given as goal

abbrev pub invariant-loop : goal.invariant-loop
invariant-loop l = record {
  cleared : All IsCleared l.benches.items;
  count : length l.benches.items ≡ l.counter;
  fit : l.count ≤ vec_capacity l.benches;
}
