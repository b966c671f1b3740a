use Rattle.std.proofs.Common.{◌≡◌, ◌≤◌, ◌+◌, ℕ, List, get_or, inl, inr, length, ap, arith, subst, sym, ◌∙◌}
use Rattle.std.proofs.lemmas.Bool.{cases_lt}
use Rattle.line_pages.specs.Rows.{piece_text_at}
use Rattle.draw_values.proofs.PieceLemmas.{text-written}
use Rattle.row_lines.specs.CohortLines.{LinesOf}
use Rattle.row_lines.specs.RunFields.{size_for}
use Rattle.row_lines.specs.Runs.{RunLinesOf, text_at, text_behind}
use Rattle.row_lines.proofs.RowOfRunLemmas.{of_unit}
use Rattle.row_lines.proofs.runs.RunLines.put_each_date.Goals as goal

pub loop-row-preserved : goal.loop-row-preserved
loop-row-preserved g c =
    let lines : RunLinesOf = c.args.self.now in
    let ordinals : List ℕ = c.args.rows.ordinals.now in
    let row : ℕ = c.loop-row.row in
    record {
      lines = c.turn_to.ensures ∙ ap (of_unit lines) (sym (ap (λ (of : LinesOf). of.born) c.turn_to.ensures));
      text = text-written (λ k. text_behind lines (get_or ordinals k 0) c.args.column) c.loop-row.pieces row c.date_piece.result (omega arith) c.loop-row.invariant.text c.date_piece.ensures.text;
      size = λ k below. elim (cases_lt k row) [
        | inl before ↦ c.loop-row.invariant.size k before
        | inr here ↦
            let same : k ≡ row = omega (arith, below, here) in
            subst (λ (j : ℕ). length (text_at lines (get_or ordinals j 0) c.args.column) ≤ size_for lines c.args.column) (sym same) c.date_piece.ensures.size
      ];
      steps = omega (arith, c.loop-row.invariant.steps, c.date_piece.ensures.steps);
    }

pub returns-clause-made : goal.returns-clause-made
returns-clause-made g c = record {
  text = λ i below.
      let begun : 0 + i ≡ i = omega arith in
      ap (piece_text_at c.loop-row.pieces) begun ∙ c.loop-row.invariant.text i (omega (arith, below, c.loop-row-test.false));
  size = λ i below. c.loop-row.invariant.size i (omega (arith, below, c.loop-row-test.false));
}
