use Rattle.std.proofs.Common.{◌≡◌, ◌*ℤ◌, ℕ, ℤ, w64, to_z, of_z, get_or, pos, ap, ap₂, arith, subst, sym, ◌∙◌}
use Rattle.schema_facts.specs.Ends.{IsInRange}
use Rattle.row_lines.proofs.RunTotalLemmas.{back_range, set-behind, set-more}
use Rattle.row_lines.proofs.run_totals.multiply_all.Goals as goal
use Rattle.row_lines.proofs.run_totals.multiply_all.Goals.{In-loop-i}

abbrev total_at : (c : In-loop-i) → ℤ
total_at c = get_or c.loop-i.totals c.loop-i.i (pos 0)

abbrev operand_at : (c : In-loop-i) → ℤ
operand_at c = get_or c.args.operands.now c.loop-i.i (pos 0)

-- the total at the place is still the old one
old_is : (c : In-loop-i) → total_at c ≡ get_or c.args.totals.now c.loop-i.i (pos 0)
old_is c = c.loop-i.invariant.behind c.loop-i.i (omega arith)

product_is : (c : In-loop-i) → to_z w64 (of_z w64 (total_at c)) *ℤ to_z w64 (of_z w64 (operand_at c)) ≡ total_at c *ℤ operand_at c
product_is c =
    ap₂ (λ (a b : ℤ). a *ℤ b) (back_range (total_at c) (subst IsInRange (sym (old_is c)) (c.requires.so_far c.loop-i.i c.loop-i-test.true)))
    (back_range (operand_at c) (c.requires.operands c.loop-i.i c.loop-i-test.true))

product_in : (c : In-loop-i) → IsInRange (total_at c *ℤ operand_at c)
product_in c = subst (λ (z : ℤ). IsInRange (z *ℤ operand_at c)) (sym (old_is c)) (c.requires.total c.loop-i.i c.loop-i-test.true)

pub loop-i-preserved : goal.loop-i-preserved
loop-i-preserved c =
    let here = (goal.at.loop-i-preserved c).In-loop-i in
    let wanted : ℕ → ℤ = λ k. get_or c.args.totals.now k (pos 0) *ℤ get_or c.args.operands.now k (pos 0) in
    record {
      before = set-more wanted c.loop-i.totals c.loop-i.i _ (omega arith)
          (ap (λ (z : ℤ). to_z w64 (of_z w64 z)) (product_is here) ∙ back_range (total_at here *ℤ operand_at here) (product_in here)
          ∙ ap (λ (total : ℤ). total *ℤ operand_at here) (old_is here))
          c.loop-i.invariant.before;
      behind = set-behind (λ k. get_or c.args.totals.now k (pos 0)) c.loop-i.totals c.loop-i.i _ c.loop-i.invariant.behind;
    }
