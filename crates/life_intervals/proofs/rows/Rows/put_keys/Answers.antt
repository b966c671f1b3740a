use Rattle.std.proofs.Common.{◌≤◌, length, arith}
use Rattle.schema_facts.specs.Lineage.{one_if}
use Rattle.life_intervals.specs.Generator.{generator_of, last_unit, table_of}
use Rattle.life_intervals.specs.Keys.{key_of}
use Rattle.life_intervals.proofs.RunLemmas.{next-part, steps-next}
use Rattle.life_intervals.proofs.rows.Rows.put_keys.Goals as goal

pub loop-from-preserved : goal.loop-from-preserved
loop-from-preserved g c =
    let plan = c.args.self.now in
    let before = c.loop-from.invariant in
    let order : c.loop-from.from ≤ c.end_of_part-until.result = omega (arith, c.end_of_part-until.ensures.after) in
    let within : c.end_of_part-until.result ≤ length c.args.ordinals.now = omega (arith, c.end_of_part-until.ensures.within, c.requires.run.same_length) in
    let next = next-part (key_of (generator_of plan) c.args.table (last_unit plan)) c.args.ordinals.now c.loop-from.keys c.put_part_keys.new.keys c.loop-from.from c.end_of_part-until.result order within before.same_length before.so_far c.put_part_keys.ensures.keys in
    record {
      within = c.end_of_part-until.ensures.within;
      same_length = next.0;
      so_far = next.1;
      steps = steps-next c.args.ordinals.now (one_if (table_of plan c.args.table).key.scramble) c.loop-from.from c.end_of_part-until.result c.loop-from.steps c.args.steps.now c.put_part_keys.new.steps order within before.steps c.put_part_keys.ensures.steps;
    }
