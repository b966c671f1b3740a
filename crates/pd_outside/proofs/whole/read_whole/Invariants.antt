use Rattle.std.proofs.Common.{◌≡◌, ◌≤◌, ◌+◌, ◌-◌, true, length}
use Rattle.pd_outside.specs.Faults.{Unfailed}
use Rattle.pd_outside.specs.Library.{ask}
use Rattle.pd_outside.proofs.Pieces.{HasRead}
use Rattle.pd_outside.proofs.whole.read_whole.Given as goal

abbrev pub invariant-loop-n : goal.invariant-loop-n
invariant-loop-n g l = record {
  read : HasRead l.name l.bytes.items (g.L.Library.content l.fn.library) (g.L.Library.content l.library);
  asked : g.L.Library.asked l.library ≡ ask l.name (g.L.Library.asked l.fn.library);
  started : g.L.Library.is_started l.library ≡ true;
  taken : g.L.Library.taken l.library ≡ length l.bytes.items;
  within : length l.bytes.items ≤ l.limit;
  unfailed : Unfailed (g.L.Library.counts l.fn.library) (g.L.Library.counts l.library);
  chunk : length l.chunk ≡ 65536;
}

abbrev pub decreases-loop-n : goal.decreases-loop-n
decreases-loop-n g l = l.limit + 1 - length l.bytes.items
