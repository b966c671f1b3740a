use Rattle.std.proofs.Common.{length, arith}
use Rattle.schema_facts.specs.Dictionaries.{Project}
use Rattle.life_intervals.specs.CohortOrders.{do_lives_differ}
use Rattle.life_intervals.specs.Generator.{table_of}
use Rattle.update_box.specs.Candidates.{ends_at}
use Rattle.life_intervals.specs.FoundAt.{ending_at}
use Rattle.update_box.proofs.BornLemmas.{IsFoundBefore, found-all, found-next, found-none, found-within, times-one_if}
use Rattle.update_box.proofs.deletions.push_all_ending.Goals as goal

pub loop-born-init : goal.loop-born-init
loop-born-init g c = found-none (ends_at c.args.rows.now c.args.table c.args.t) (table_of c.args.rows.now c.args.table).births c.args.list.now.items c.args.steps.now

pub loop-born-preserved : goal.loop-born-preserved
loop-born-preserved g c =
    let plan : Project = c.args.rows.now in
    found-next (ends_at plan c.args.table c.args.t) (table_of plan c.args.table).births c.loop-born.born c.args.list.now.items c.loop-born.list.items c.push_ending.new.rows.items c.args.steps.now c.loop-born.steps c.push_ending.new.steps
    c.loop-born.invariant c.in_ok-push_ending.ensures.rows
    (omega (arith, c.in_ok-push_ending.ensures.steps, times-one_if (length (ending_at plan c.args.table c.loop-born.born c.args.t)) (do_lives_differ (table_of plan c.args.table).life)))

pub returns-in_err-push_ending-clause-steps : goal.returns-in_err-push_ending-clause-steps
returns-in_err-push_ending-clause-steps g c =
    let plan : Project = c.args.rows.now in
    found-within (ends_at plan c.args.table c.args.t) (table_of plan c.args.table).births c.loop-born.born c.args.t c.args.list.now.items c.loop-born.list.items c.args.steps.now c.loop-born.steps c.push_ending.new.steps
    c.loop-born-test.true c.loop-born.invariant
    (omega (arith, c.push_ending.ensures.steps, times-one_if (length (ending_at plan c.args.table c.loop-born.born c.args.t)) (do_lives_differ (table_of plan c.args.table).life)))

pub returns : goal.returns
returns g c =
    let plan : Project = c.args.rows.now in
    let all : IsFoundBefore (ends_at plan c.args.table c.args.t) (table_of plan c.args.table).births c.args.t c.args.list.now.items c.loop-born.list.items c.args.steps.now c.loop-born.steps =
    found-all (ends_at plan c.args.table c.args.t) (table_of plan c.args.table).births c.loop-born.born c.args.t c.args.list.now.items c.loop-born.list.items c.args.steps.now c.loop-born.steps
    (omega (arith, c.loop-born-test.false, c.loop-born.auto.born-end)) c.loop-born.invariant in
    record { rows = all.rows; steps = all.steps }
