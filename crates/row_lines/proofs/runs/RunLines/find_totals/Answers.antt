use Rattle.std.proofs.Common.{ap, arith, sym, ◌∙◌}
use Rattle.schema_facts.specs.ColumnFacts.{field_facts}
use Rattle.schema_facts.specs.Layout.{layout_of}
use Rattle.row_lines.specs.CohortLines.{LinesOf}
use Rattle.row_lines.specs.Runs.{RunLinesOf}
use Rattle.row_lines.proofs.RowOfRunLemmas.{of_unit}
use Rattle.row_lines.proofs.RunTotalLemmas.{told-more, value-back}
use Rattle.row_lines.proofs.runs.RunLines.find_totals.Goals as goal

pub loop-row-init : goal.loop-row-init
loop-row-init g c = record { lines = c.new-lines.ensures ∙ ap (λ (of : RunLinesOf). of_unit of 0) c.self.view_is ∙ ap (of_unit c.args.self.now) (sym (ap (λ (of : LinesOf). of.born) c.new-lines.ensures)); told = record { text = λ k below. absurd (omega (arith, below)); small = λ k below. absurd (omega (arith, below)) }; steps = omega arith }

pub loop-row-preserved : goal.loop-row-preserved
loop-row-preserved g c = record {
  lines = c.turn_to.ensures ∙ ap (of_unit c.args.self.now) (sym (ap (λ (of : LinesOf). of.born) c.turn_to.ensures));
  told = told-more c.args.self.now c.args.rows.ordinals.now c.loop-row.live c.loop-row.totals c.args.column c.loop-row.row c.total_at.result c.told-held.result.0 _ (omega arith) (omega arith) c.requires.small c.told-held.ensures.held
      (value-back (field_facts (layout_of c.args.self.now.plan) c.args.self.now.table c.args.column).numbers c.total_at.result c.told-held.result.1 c.requires.small c.told-held.ensures.value c.total_at.ensures.within)
      c.total_at.ensures.text c.total_at.ensures.within c.loop-row.invariant.told;
  steps = omega (arith, c.loop-row.invariant.steps, c.total_at.ensures.steps);
}

pub returns-clause-told : goal.returns-clause-told
returns-clause-told g c = record {
  text = λ i below. c.loop-row.invariant.told.text i (omega (arith, below, c.loop-row-test.false));
  small = λ i below. c.loop-row.invariant.told.small i (omega (arith, below, c.loop-row-test.false));
}
