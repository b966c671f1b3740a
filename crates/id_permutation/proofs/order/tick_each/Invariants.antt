use Rattle.std.proofs.Common.{◌≡◌, ◌+◌}
use Rattle.id_permutation.proofs.order.tick_each.Given as goal

-- one for each so far
abbrev pub invariant-loop-time : goal.invariant-loop-time
invariant-loop-time g l = l.steps ≡ l.initial.steps + l._time
