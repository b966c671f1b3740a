use Rattle.std.proofs.Common.{◌≤◌, length, arith}
use Rattle.schema_facts.specs.Lineage.{one_if}
use Rattle.life_intervals.specs.CohortOrders.{do_lives_differ}
use Rattle.life_intervals.specs.Generator.{generator_of, table_of}
use Rattle.life_intervals.specs.Intervals.{is_after, own_death}
use Rattle.life_intervals.proofs.RunLemmas.{next-part, steps-next_le}
use Rattle.life_intervals.proofs.rows.Rows.put_own_lives.Goals as goal

pub loop-from-preserved : goal.loop-from-preserved
loop-from-preserved g c =
    let plan = c.args.self.now in
    let before = c.loop-from.invariant in
    let order : c.loop-from.from ≤ c.end_of_part-until.result = omega (arith, c.end_of_part-until.ensures.after) in
    let within : c.end_of_part-until.result ≤ length c.args.ordinals.now = omega (arith, c.end_of_part-until.ensures.within, c.requires.run.same_length) in
    let next = next-part (λ j. is_after (own_death (generator_of plan) c.args.table c.args.t j) c.args.t) c.args.ordinals.now c.loop-from.live c.put_part_own_lives.new.live c.loop-from.from c.end_of_part-until.result order within before.same_length before.so_far c.put_part_own_lives.ensures.live in
    record {
      within = c.end_of_part-until.ensures.within;
      same_length = next.0;
      so_far = next.1;
      steps = steps-next_le c.args.ordinals.now (one_if (do_lives_differ (table_of plan c.args.table).life)) c.loop-from.from c.end_of_part-until.result c.loop-from.steps c.args.steps.now c.put_part_own_lives.new.steps order within before.steps c.put_part_own_lives.ensures.steps;
    }
