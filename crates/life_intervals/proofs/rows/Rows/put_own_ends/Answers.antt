use Rattle.std.proofs.Common.{◌≡◌, ◌≤◌, ◌<◌, ℕ, Some, get_or, length, ap, arith, ◌∙◌}
use Rattle.schema_facts.specs.Lineage.{one_if}
use Rattle.schema_facts.specs.declared.layout.Span.{Span}
use Rattle.schema_facts.specs.Dictionaries.{Project}
use Rattle.life_intervals.specs.CohortOrders.{do_lives_differ}
use Rattle.life_intervals.specs.Generator.{generator_of, last_unit, table_of}
use Rattle.life_intervals.specs.Intervals.{own_death}
use Rattle.life_intervals.proofs.EndLemmas.{earlier-part, earlier-same, earlier_end-after, own_death-after}
use Rattle.life_intervals.proofs.RunLemmas.{steps-next_le, steps-part_le}
use Rattle.life_intervals.proofs.rows.Rows.put_own_ends.Goals as goal

pub loop-from-preserved-then-born-life : goal.loop-from-preserved-then-born-life
loop-from-preserved-then-born-life g c =
    let plan : Project = c.args.self.now in
    let before = c.loop-from.invariant in
    let from : ℕ = c.loop-from.from in
    let until : ℕ = c.end_of_part-until.result in
    let order : from ≤ until = omega (arith, c.end_of_part-until.ensures.after) in
    let within : until ≤ length c.args.ordinals.now = omega (arith, c.end_of_part-until.ensures.within, c.requires.run.same_length) in
    record {
      within = c.end_of_part-until.ensures.within;
      ends = earlier-part (own_death (generator_of plan) c.args.table (last_unit plan)) c.args.ordinals.now c.args.ends.now c.loop-from.ends c.put_part_own_ends.new.ends from until order within before.ends c.put_part_own_ends.ensures.ends;
      steps = steps-next_le c.args.ordinals.now (one_if (do_lives_differ (table_of plan c.args.table).life)) from until c.loop-from.steps c.args.steps.now c.put_part_own_ends.new.steps order within before.steps
          (omega (arith, c.put_part_own_ends.ensures.steps));
    }

pub loop-from-preserved : goal.loop-from-preserved
loop-from-preserved g c =
    let plan : Project = c.args.self.now in
    let before = c.loop-from.invariant in
    let from : ℕ = c.loop-from.from in
    let until : ℕ = c.end_of_part-until.result in
    let order : from ≤ until = omega (arith, c.end_of_part-until.ensures.after) in
    let life : Span = c.in-Some.life in
    let life_is : Some life ≡ (table_of plan c.args.table).life = c.in-Some.ensures.life ∙ ap (λ (p : Project). (table_of p c.args.table).life) c.plan.ensures in
    record {
      within = c.end_of_part-until.ensures.within;
      ends = earlier-same (own_death (generator_of plan) c.args.table (last_unit plan)) c.args.ordinals.now c.args.ends.now c.loop-from.ends from until order before.ends (λ i late early.
          let inside : i < length c.args.ordinals.now = omega (arith, early, c.end_of_part-until.ensures.within, c.requires.run.same_length) in
          let born : get_or c.args.births.now i 0 ≤ c.args.t = c.requires.run.born i inside in
          let same : get_or c.args.births.now i 0 ≡ get_or c.args.births.now from 0 = c.end_of_part-until.ensures.same i late early in
          earlier_end-after c.args.t (get_or c.args.ends.now i 0) (own_death (generator_of plan) c.args.table (last_unit plan) (get_or c.args.ordinals.now i 0)) (c.requires.ends.within i inside)
          (own_death-after plan c.args.table (get_or c.args.births.now i 0) (omega (arith, born, c.requires.unit)) (get_or c.args.ordinals.now i 0) (c.requires.run.lies i inside) life life_is c.args.t
          (omega (arith, same, c.if-born-life.false))));
      steps = steps-part_le (one_if (do_lives_differ (table_of plan c.args.table).life)) from until c.loop-from.steps c.args.steps.now c.loop-from.steps order before.steps (omega arith);
    }
