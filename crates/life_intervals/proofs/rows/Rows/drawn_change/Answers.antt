use Rattle.std.proofs.Common.{ℕ, ap, subst, ◌∙◌}
use Rattle.schema_plan.specs.Limits.{IsInLimits}
use Rattle.life_intervals.specs.Changes.{last_change}
use Rattle.life_intervals.specs.CohortParents.{losses_in}
use Rattle.life_intervals.specs.Found.{cohort_of_row}
use Rattle.life_intervals.proofs.FoundLemmas.{found-change}
use Rattle.life_intervals.proofs.rows.Rows.drawn_change.Goals as goal

pub returns-clause-unit : goal.returns-clause-unit
returns-clause-unit g c =
    c.last_loss.ensures.change
    ∙ ap (λ (due : ℕ). last_change c.args.t due (losses_in (cohort_of_row c.args.self.now c.args.table c.args.row) c.args.row.index)) c.last_due_unit-due.ensures.unit
    ∙ found-change c.args.self.now c.args.table c.args.row c.requires.row (subst IsInLimits c.plan.ensures c.schema-sound.ensures.limits) c.requires.table c.args.t c.requires.born c.requires.unit
