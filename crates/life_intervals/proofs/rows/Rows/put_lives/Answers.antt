use Rattle.std.proofs.Common.{◌≤◌, ◌+◌, ℕ, length, arith}
use Rattle.life_intervals.specs.CohortParents.{asked_for_death}
use Rattle.life_intervals.specs.Generator.{generator_of}
use Rattle.life_intervals.specs.Intervals.{is_live}
use Rattle.life_intervals.proofs.EndLemmas.{IsRun-part}
use Rattle.life_intervals.proofs.RunLemmas.{next-part, steps-next_le}
use Rattle.life_intervals.proofs.rows.Rows.put_lives.Goals as goal

pub put_run_lives-requires-clause-run : goal.put_run_lives-requires-clause-run
put_run_lives-requires-clause-run g c =
    IsRun-part c.args.self.now c.args.table c.args.t c.args.ordinals.now c.args.births.now c.loop-from.from (c.loop-from.from + c.min-count.result) (omega arith)
    (omega (arith, c.min-count.ensures, c.requires.run.same_length, c.loop-from-test.true)) c.requires.run

pub loop-from-preserved : goal.loop-from-preserved
loop-from-preserved g c =
    let plan = c.args.self.now in
    let before = c.loop-from.invariant in
    let until : ℕ = c.loop-from.from + c.min-count.result in
    let order : c.loop-from.from ≤ until = omega arith in
    let within : until ≤ length c.args.ordinals.now = omega (arith, c.min-count.ensures, c.requires.run.same_length, c.loop-from-test.true) in
    let next = next-part (is_live (generator_of plan) c.args.table c.args.t) c.args.ordinals.now c.loop-from.live c.put_run_lives.new.live c.loop-from.from until order within before.same_length before.so_far c.put_run_lives.ensures.live in
    record {
      within = omega (arith, within, c.requires.run.same_length);
      same_length = next.0;
      so_far = next.1;
      steps = steps-next_le c.args.ordinals.now (asked_for_death plan c.args.table) c.loop-from.from until c.loop-from.steps c.args.steps.now c.put_run_lives.new.steps order within before.steps c.put_run_lives.ensures.steps;
    }
