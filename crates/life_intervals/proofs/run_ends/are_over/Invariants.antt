use Rattle.std.proofs.Common.{◌≡◌, ◌<◌, ℕ, get_or}
use Rattle.life_intervals.specs.CohortLives.{survival_at}
use Rattle.life_intervals.specs.declared.lives.Survival.TheVariants.{Over}
use Rattle.life_intervals.proofs.run_ends.are_over.Given as goal

abbrev pub invariant-loop-i : goal.invariant-loop-i
invariant-loop-i l = (k : ℕ) → k < l.i → survival_at l.plan l.table (get_or l.births k 0) l.t ≡ Over
