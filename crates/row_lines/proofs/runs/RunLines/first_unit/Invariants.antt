use Rattle.std.proofs.Common.{◌≡◌, ℕ, ◌<◌}
use Rattle.life_intervals.specs.CohortLives.{survival_at}
use Rattle.life_intervals.specs.declared.lives.Survival.TheVariants.{Over}
use Rattle.row_lines.proofs.runs.RunLines.first_unit.Given as goal

abbrev pub invariant-loop-born : goal.invariant-loop-born
invariant-loop-born l = (k : ℕ) → k < l.born → survival_at l.self.plan l.self.table k l.self.unit ≡ Over
