use Rattle.std.proofs.Common.{◌≤◌, ℕ, true, false, get_or, ap, arith, subst, sym, ◌∙◌}
use Rattle.std.proofs.lemmas.List.{get_or_default}
use Rattle.schema_facts.specs.Dictionaries.{Project}
use Rattle.schema_plan.specs.Limits.{IsInLimits}
use Rattle.life_intervals.specs.CohortLives.{survival_at}
use Rattle.life_intervals.specs.Generator.{generator_of}
use Rattle.life_intervals.specs.Intervals.{is_live}
use Rattle.life_intervals.proofs.PartLemmas.{lies-over, lies-sure}
use Rattle.life_intervals.proofs.RunLemmas.{map-same_value}
use Rattle.life_intervals.proofs.rows.Rows.put_run_lives.Goals as goal

pub returns-then-are_sure-clause-live : goal.returns-then-are_sure-clause-live
returns-then-are_sure-clause-live g c =
    let plan : Project = c.args.self.now in
    let ordinals = c.args.ordinals.now in
    let limits : IsInLimits plan = subst IsInLimits c.plan.ensures c.schema-sound.ensures.limits in
    map-same_value (is_live (generator_of plan) c.args.table c.args.t) true ordinals c.put_live.new.live false
    (omega (arith, c.put_live.ensures.same_length, c.requires.same_length))
    (λ i below. c.put_live.ensures.same i (omega (arith, below, c.requires.same_length)))
    (λ k d inside.
    let born : ℕ = get_or c.args.births.now k 0 in
    let early : born ≤ c.args.t = c.requires.run.born k inside in
    lies-sure plan c.args.table born (omega (arith, early, c.requires.unit)) (get_or ordinals k 0) (c.requires.run.lies k inside) limits c.requires.table c.args.t early c.requires.unit
    (ap (λ (p : Project). survival_at p c.args.table born c.args.t) (sym c.plan-plan.ensures) ∙ c.are_sure.ensures c.if-are_sure.true k (omega (arith, inside, c.requires.run.same_length)))
    ∙ ap (is_live (generator_of plan) c.args.table c.args.t) (get_or_default ordinals k 0 d inside))

pub returns-then-are_over-clause-live : goal.returns-then-are_over-clause-live
returns-then-are_over-clause-live g c =
    let plan : Project = c.args.self.now in
    let ordinals = c.args.ordinals.now in
    let limits : IsInLimits plan = subst IsInLimits c.plan.ensures c.schema-sound.ensures.limits in
    map-same_value (is_live (generator_of plan) c.args.table c.args.t) false ordinals c.put_live-then-are_over.new.live false
    (omega (arith, c.put_live-then-are_over.ensures.same_length, c.requires.same_length))
    (λ i below. c.put_live-then-are_over.ensures.same i (omega (arith, below, c.requires.same_length)))
    (λ k d inside.
    let born : ℕ = get_or c.args.births.now k 0 in
    let early : born ≤ c.args.t = c.requires.run.born k inside in
    lies-over plan c.args.table born (omega (arith, early, c.requires.unit)) (get_or ordinals k 0) (c.requires.run.lies k inside) limits c.requires.table c.args.t early c.requires.unit
    (ap (λ (p : Project). survival_at p c.args.table born c.args.t) (sym c.plan-plan.ensures) ∙ c.are_over.ensures c.if-are_over.true k (omega (arith, inside, c.requires.run.same_length)))
    ∙ ap (is_live (generator_of plan) c.args.table c.args.t) (get_or_default ordinals k 0 d inside))
