use Rattle.std.proofs.Common.{◌≡◌, ◌+◌, ◌-◌, ◌*◌, ◌≤◌, ℕ, ap, arith, subst, sym, ◌∙◌}
use Rattle.cohort_sizes.specs.Births.{born_count}
use Rattle.schema_facts.specs.Dictionaries.{Project}
use Rattle.schema_plan.specs.Limits.{IsInLimits}
use Rattle.life_intervals.specs.Generator.{table_of}
use Rattle.undo_streams.specs.Places.{living_among}
use Rattle.undo_streams.proofs.PlaceLemmas.{living_among-all, steps-places}
use Rattle.undo_streams.proofs.row_places.count_living.Goals as goal

pub returns-clause-count : goal.returns-clause-count
returns-clause-count g c =
    let plan : Project = c.args.rows.now in
    let limits : IsInLimits plan = subst IsInLimits c.plan.ensures c.schema-sound.ensures.limits in
    let all : c.born-end.result - 0 ≡ born_count (table_of plan c.args.table).births c.args.t =
    omega (arith, c.born-end.ensures.count, ap (λ (p : Project). born_count (table_of p c.args.table).births c.args.t) c.plan-2.ensures) in
    c.living_between.ensures.living ∙ living_among-all plan limits c.args.table c.args.t c.requires.unit (c.born-end.result - 0) all

pub returns-clause-steps : goal.returns-clause-steps
returns-clause-steps g c =
    let plan : Project = c.args.rows.now in
    let limits : IsInLimits plan = subst IsInLimits c.plan.ensures c.schema-sound.ensures.limits in
    steps-places plan limits c.args.table c.requires.table (born_count (table_of plan c.args.table).births c.args.t) (c.born-end.result - 0) c.args.steps.now c.living_between.new.steps
    (omega (arith, c.born-end.ensures.count, ap (λ (p : Project). born_count (table_of p c.args.table).births c.args.t) c.plan-2.ensures)) c.living_between.ensures.steps
