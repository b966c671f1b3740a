use Rattle.std.proofs.Common.{◌<◌, ◌^◌, ℕ, get_or}
use Rattle.detail_lines.proofs.line_runs.are_short.Given as goal

abbrev pub invariant-loop-key : goal.invariant-loop-key
invariant-loop-key l = (k : ℕ) → k < l.key-index → get_or l.keys k 0 < 10 ^ 15
