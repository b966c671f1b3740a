use Rattle.std.proofs.Common.{ℕ, ◌<◌, get_or}
use Rattle.detail_tests.proofs.pack_tests.are_born.Given as goal

abbrev pub invariant-loop-ordinal : goal.invariant-loop-ordinal
invariant-loop-ordinal l = (k : ℕ) → k < l.ordinal-index → get_or l.ordinals k 0 < l.many
