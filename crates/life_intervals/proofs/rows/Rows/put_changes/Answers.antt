use Rattle.std.proofs.Common.{◌≡◌, ◌≤◌, ◌<◌, ◌+◌, ◌⊎◌, ℕ, get_or, length, arith, subst, sym}
use Rattle.schema_facts.specs.Dictionaries.{Project}
use Rattle.schema_plan.specs.Limits.{IsInLimits}
use Rattle.life_intervals.specs.Changes.{change_span}
use Rattle.life_intervals.specs.CohortParents.{asked_for_change}
use Rattle.life_intervals.specs.Generator.{generator_of, table_of}
use Rattle.life_intervals.specs.Intervals.{change_unit}
use Rattle.life_intervals.proofs.PartLemmas.{lies-change_from, lies-change_le, lies-change_recent}
use Rattle.life_intervals.proofs.RunLemmas.{length-part, next-part, put-all, steps-next_le}
use Rattle.life_intervals.proofs.rows.Rows.put_changes.Goals as goal

pub loop-from-preserved : goal.loop-from-preserved
loop-from-preserved g c =
    let plan = c.args.self.now in
    let before = c.loop-from.invariant in
    let order : c.loop-from.from ≤ c.end_of_part-until.result = omega (arith, c.end_of_part-until.ensures.after) in
    let within : c.end_of_part-until.result ≤ length c.args.ordinals.now = omega (arith, c.end_of_part-until.ensures.within, c.requires.run.same_length) in
    let next = next-part (change_unit (generator_of plan) c.args.table c.args.t) c.args.ordinals.now c.loop-from.changes c.put_part_changes.new.changes c.loop-from.from c.end_of_part-until.result order within before.same_length before.so_far c.put_part_changes.ensures.changes in
    record {
      within = c.end_of_part-until.ensures.within;
      same_length = next.0;
      so_far = next.1;
      steps = steps-next_le c.args.ordinals.now (asked_for_change plan c.args.table) c.loop-from.from c.end_of_part-until.result c.loop-from.steps c.args.steps.now c.put_part_changes.new.steps order within before.steps c.put_part_changes.ensures.steps;
    }

pub returns-clause-changes : goal.returns-clause-changes
returns-clause-changes g c = λ i inside.
    put-all (change_unit (generator_of c.args.self.now) c.args.table c.args.t) c.args.ordinals.now c.loop-from.changes c.loop-from.from i 0 0 c.loop-from.invariant.same_length
    (omega (arith, c.loop-from-test.false, c.requires.run.same_length)) c.loop-from.invariant.so_far inside

pub returns-clause-from : goal.returns-clause-from
returns-clause-from g c = λ i inside.
    let plan : Project = c.args.self.now in
    let born : ℕ = get_or c.args.births.now i 0 in
    let early : born ≤ c.args.t = c.requires.run.born i inside in
    omega (
      arith,
      returns-clause-changes g c i inside,
      lies-change_from plan c.args.table born (omega (arith, early, c.requires.unit)) (get_or c.args.ordinals.now i 0) (c.requires.run.lies i inside) c.args.t early,
    )

pub returns-clause-within : goal.returns-clause-within
returns-clause-within g c = λ i inside.
    let plan : Project = c.args.self.now in
    let born : ℕ = get_or c.args.births.now i 0 in
    let early : born ≤ c.args.t = c.requires.run.born i inside in
    omega (
      arith,
      returns-clause-changes g c i inside,
      lies-change_le plan c.args.table born (omega (arith, early, c.requires.unit)) (get_or c.args.ordinals.now i 0) (c.requires.run.lies i inside) c.args.t early,
    )

pub returns-clause-recent : goal.returns-clause-recent
returns-clause-recent g c = λ i inside.
    let plan : Project = c.args.self.now in
    let born : ℕ = get_or c.args.births.now i 0 in
    let early : born ≤ c.args.t = c.requires.run.born i inside in
    subst (λ (change : ℕ). (change ≡ born) ⊎ (c.args.t < change + change_span (table_of plan c.args.table) c.args.t)) (sym (returns-clause-changes g c i inside))
    (lies-change_recent plan c.args.table born (omega (arith, early, c.requires.unit)) (get_or c.args.ordinals.now i 0) (c.requires.run.lies i inside)
    (subst IsInLimits c.plan.ensures c.schema-sound.ensures.limits) c.requires.table c.args.t early)

pub put_part_changes-requires-clause-few : goal.put_part_changes-requires-clause-few
put_part_changes-requires-clause-few g c =
    omega (
      arith,
      length-part c.args.ordinals.now c.loop-from.from c.end_of_part-until.result (omega (arith, c.end_of_part-until.ensures.after)) (omega (arith, c.end_of_part-until.ensures.within, c.requires.run.same_length)),
      c.end_of_part-until.ensures.few,
    )
