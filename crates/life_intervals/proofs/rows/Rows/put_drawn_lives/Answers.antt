use Rattle.std.proofs.Common.{◌≤◌, ℕ, Option, get_or, ap, arith, subst, ◌∙◌}
use Rattle.std.specs.Prelude.{nat_lt}
use Rattle.schema_facts.specs.Dictionaries.{Project}
use Rattle.schema_plan.specs.Limits.{IsInLimits}
use Rattle.life_intervals.specs.Ends.{earlier_end}
use Rattle.life_intervals.specs.Generator.{generator_of, last_unit}
use Rattle.life_intervals.specs.Intervals.{death, is_live}
use Rattle.life_intervals.proofs.EndLemmas.{death-live, map-beside, nat_lt-earlier_end}
use Rattle.life_intervals.proofs.rows.Rows.put_drawn_lives.Goals as goal

pub returns-clause-live : goal.returns-clause-live
returns-clause-live g c =
    let plan : Project = c.args.self.now in
    let ordinals = c.args.ordinals.now in
    let ends = c.put_drawn_ends-by.new.ends in
    let limits : IsInLimits plan = subst IsInLimits c.plan.ensures c.schema-sound.ensures.limits in
    c.put_lasting.ensures
    ∙ map-beside (λ end. nat_lt c.args.t end) (is_live (generator_of plan) c.args.table c.args.t) ends ordinals c.put_drawn_ends-by.ensures.ends.same_length (λ i below.
    let j : ℕ = get_or ordinals i 0 in
    let born : ℕ = get_or c.args.births.now i 0 in
    let early : born ≤ c.args.t = c.requires.run.born i below in
    let d : Option ℕ = death (generator_of plan) c.args.table (last_unit plan) j in
    ap (λ (end : ℕ). nat_lt c.args.t end) (c.put_drawn_ends-by.ensures.ends.each i below ∙ ap (λ (end : ℕ). earlier_end end d) (c.put_unit.ensures.same i (omega (arith, below, c.requires.few))))
    ∙ nat_lt-earlier_end c.args.t d
    ∙ death-live plan c.args.table born (omega (arith, early, c.requires.unit)) j (c.requires.run.lies i below) limits c.requires.table c.args.t early c.requires.unit)
