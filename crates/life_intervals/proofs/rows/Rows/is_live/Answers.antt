use Rattle.std.proofs.Common.{ℕ, Option, ap, subst, ◌∙◌}
use Rattle.schema_plan.specs.Limits.{IsInLimits}
use Rattle.life_intervals.specs.Intervals.{is_after}
use Rattle.life_intervals.proofs.FoundLemmas.{found-live}
use Rattle.life_intervals.proofs.rows.Rows.is_live.Goals as goal

pub returns-clause-live : goal.returns-clause-live
returns-clause-live g c =
    c.is_past.ensures
    ∙ ap (λ (death : Option ℕ). is_after death c.args.t) c.found_death.ensures.death
    ∙ found-live c.args.self.now c.args.table c.args.row c.requires.row (subst IsInLimits c.plan.ensures c.schema-sound.ensures.limits) c.requires.table c.args.t c.requires.born c.requires.unit
