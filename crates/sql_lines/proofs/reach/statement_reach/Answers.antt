use Rattle.std.proofs.Common.{◌≡◌, ◌<◌, ap, arith, length, max, ◌∙◌}
use Rattle.std.proofs.lemmas.Grind.{common_steps}
use Rattle.schema_facts.specs.Layout.{layout_of, no_table}
use Rattle.schema_facts.proofs.Capping.{greatest_more}
use Rattle.life_intervals.proofs.AcceptedLemmas.{length-tables, place-below}
use Rattle.sql_lines.specs.Reach.{statement_of_table}
use Rattle.sql_lines.proofs.ReachLemmas.{reach-whole, size-of_table}
use Rattle.sql_lines.proofs.reach.statement_reach.Goals as goal

pub loop-table-preserved : goal.loop-table-preserved
loop-table-preserved c =
    let plan = c.args.plan.now in
    let below : c.loop-table.table < length plan.schema.tables = omega (arith, c.loop-table-test.true, c.tables-table-end.ensures) in
    let greater : c.max-most.result ≡ max c.loop-table.most c.statement_size.result = grind (arith, common_steps) in
    record {
      most = greater
          ∙ ap (max c.loop-table.most) (c.statement_size.ensures.size ∙ size-of_table (layout_of plan) c.loop-table.table)
          ∙ greatest_more (statement_of_table (layout_of plan)) (layout_of plan).tables c.loop-table.table no_table c.loop-table.most (place-below plan c.loop-table.table below) c.loop-table.invariant.most;
      some = λ _. omega (arith, greater, c.statement_size.ensures.some);
      few = omega (arith, greater, c.statement_size.ensures.few, c.loop-table.invariant.few);
    }

pub returns-clause-reach : goal.returns-clause-reach
returns-clause-reach c =
    let plan = c.args.plan.now in
    reach-whole (layout_of plan) c.loop-table.table c.loop-table.most c.loop-table.invariant.most (omega (arith, c.loop-table-test.false, c.tables-table-end.ensures, length-tables plan))
