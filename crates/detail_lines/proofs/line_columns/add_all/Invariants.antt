use Rattle.std.proofs.Common.{◌≡◌, ◌<◌, ◌≤◌, ◌+ℤ◌, ℕ, pos, get_or}
use Rattle.detail_lines.proofs.line_columns.add_all.Given as goal

abbrev pub invariant-loop-i : goal.invariant-loop-i
invariant-loop-i l = record {
  before : (k : ℕ) → k < l.i → get_or l.numbers k (pos 0) ≡ get_or l.fn.numbers k (pos 0) +ℤ get_or l.more k (pos 0);
  behind : (k : ℕ) → l.i ≤ k → get_or l.numbers k (pos 0) ≡ get_or l.fn.numbers k (pos 0);
}
