use Rattle.std.proofs.Common.{◌≡◌, ℕ, ◌≤◌, length, get_or, take}
use Rattle.row_lines.specs.Kept.{kept_by}
use Rattle.row_lines.proofs.kept.keep.Given as goal

abbrev pub invariant-loop-index : goal.invariant-loop-index
invariant-loop-index l = record {
  within : l.kept ≤ l.index;
  kept : take l.kept l.list ≡ kept_by (take l.index l.flags) (take l.index l.fn.list);
  rest : (k : ℕ) → l.index ≤ k → get_or l.list k 0 ≡ get_or l.fn.list k 0;
  length : length l.list ≡ length l.fn.list;
}
