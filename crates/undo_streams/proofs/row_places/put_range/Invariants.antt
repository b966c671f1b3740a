use Rattle.std.proofs.Common.{◌≡◌, ℕ, ◌+◌, ◌<◌, length, get_or}
use Rattle.undo_streams.proofs.row_places.put_range.Given as goal

abbrev pub invariant-loop-index : goal.invariant-loop-index
invariant-loop-index l = record {
  each : (k : ℕ) → k < l.index → get_or l.list k 0 ≡ l.first + k;
  length : length l.list ≡ length l.fn.list;
}
