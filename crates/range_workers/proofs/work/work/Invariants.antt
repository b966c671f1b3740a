use Rattle.std.proofs.Common.{◌≡◌, ◌+◌, ◌≤◌, length}
use Rattle.std.specs.Prelude.{All, vec_capacity}
use Rattle.range_workers.specs.declared.view.View.TheVariants.{Worker}
use Rattle.range_workers.specs.Round.{HasRoom, IsPageOf, numbers_of}
use Rattle.range_workers.specs.Seats.{IsSeatOf, view}
use Rattle.range_workers.proofs.work.work.Given as goal

abbrev pub invariant-loop : goal.invariant-loop
invariant-loop g l = record {
  seat : IsSeatOf l.claims l.worker.seat;
  view : view l.worker.seat ≡ Worker (numbers_of l.worker.bench.made.items) l.round.base;
  made : All (IsPageOf (g.P.Packer.text l.packer) (g.P.Packer.room l.packer) l.round) l.worker.bench.made.items;
  count : length l.worker.bench.made.items ≡ l.counter;
  pages : length l.worker.bench.blank.items + l.counter ≡ 8;
  rooms : All (HasRoom (g.P.Packer.room l.packer)) l.worker.bench.blank.items;
  blank_fit : 8 ≤ vec_capacity l.worker.bench.blank;
  made_fit : 8 ≤ vec_capacity l.worker.bench.made;
}
