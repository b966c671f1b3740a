use Rattle.std.proofs.Common.{◌≡◌, ℕ, false, get_or, arith, ap, inl, inr, subst, sym, ◌∙◌}
use Rattle.std.proofs.lemmas.Bool.{cases_lt}
use Rattle.detail_lines.specs.LineRuns.{IsDrawnAt}
use Rattle.detail_lines.proofs.detail_lines.DetailLines.can_be_mixed.Goals as goal

pub loop-column-preserved : goal.loop-column-preserved
loop-column-preserved c = λ k below flag. elim (cases_lt k c.loop-column.column) [
  | inl before ↦ c.loop-column.invariant k before flag
  | inr here ↦
      let same : k ≡ c.loop-column.column = omega (arith, below, here) in
      subst (IsDrawnAt c.args.self.now) (sym same) (c.is_made_or_drawn.ensures c.if-not-is_made_or_drawn.false (ap (λ (place : ℕ). get_or c.args.made.now place false) (sym same) ∙ flag))
]
