use Rattle.std.proofs.Common.{◌≡◌, sym, subst, ap, ◌∙◌}
use Rattle.schema_facts.specs.Dictionaries.{Project}
use Rattle.schema_plan.specs.Limits.{IsInLimits}
use Rattle.life_intervals.specs.CohortLives.{survival_at}
use Rattle.undo_streams.proofs.PlaceLemmas.{living_among-over, living_among-sure}
use Rattle.undo_streams.proofs.row_places.living_in_part.Goals as goal

pub returns-in-Sure-clause-living : goal.returns-in-Sure-clause-living
returns-in-Sure-clause-living g c =
    let plan : Project = c.args.rows.now in
    let limits : IsInLimits plan = subst IsInLimits c.plan.ensures c.schema-sound.ensures.limits in
    living_among-sure plan limits c.args.table c.requires.table c.args.t c.args.born c.requires.born c.requires.unit c.args.first c.args.count c.requires.rows
    (ap (λ (p : Project). survival_at p c.args.table c.args.born c.args.t) (sym c.plan-2.ensures) ∙ sym c.survival_at.ensures ∙ c.in-Sure.is)

pub returns-in-Over-clause-living : goal.returns-in-Over-clause-living
returns-in-Over-clause-living g c =
    let plan : Project = c.args.rows.now in
    let limits : IsInLimits plan = subst IsInLimits c.plan.ensures c.schema-sound.ensures.limits in
    living_among-over plan limits c.args.table c.requires.table c.args.t c.args.born c.requires.born c.requires.unit c.args.first c.args.count c.requires.rows
    (ap (λ (p : Project). survival_at p c.args.table c.args.born c.args.t) (sym c.plan-2.ensures) ∙ sym c.survival_at.ensures ∙ c.in-Over.is)
