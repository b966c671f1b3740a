use Rattle.std.proofs.Common.{◌+◌, ℕ, ap, sym, ◌∙◌}
use Rattle.std.proofs.lemmas.List.Sums.{count_by_more_no, count_by_more_yes}
use Rattle.update_box.specs.Candidates.{is_cascade}
use Rattle.update_box.proofs.deletions.count_cascades.Goals as goal
use Rattle.update_box.proofs.deletions.count_cascades.Goals.{then-is_cascade, else-is_cascade}

pub loop-column-preserved : goal.loop-column-preserved
loop-column-preserved c =
    let at : ℕ = c.loop-column.column-index in
    elim c.if-is_cascade.branch [
      | then-is_cascade w ↦
          w.count-is
          ∙ ap (λ (n : ℕ). n + 1) c.loop-column.invariant
          ∙ sym (count_by_more_yes is_cascade c.args.columns.now at c.column-item.result c.loop-column-test.true (ap is_cascade (sym c.column-item.is) ∙ sym c.is_cascade.ensures ∙ w.if-is_cascade.true))
      | else-is_cascade w ↦
          w.count-is
          ∙ c.loop-column.invariant
          ∙ sym (count_by_more_no is_cascade c.args.columns.now at c.column-item.result c.loop-column-test.true (ap is_cascade (sym c.column-item.is) ∙ sym c.is_cascade.ensures ∙ w.if-is_cascade.false))
    ]
