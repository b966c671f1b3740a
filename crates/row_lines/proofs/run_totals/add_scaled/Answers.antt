use Rattle.std.proofs.Common.{◌≡◌, ◌+ℤ◌, ◌*ℤ◌, ℕ, ℤ, FitsSigned, w64, to_z, of_z, get_or, pos, ap, ap₂, arith, subst, sym, ◌∙◌}
use Rattle.std.proofs.lemmas.Int.{to_z-of_z}
use Rattle.schema_facts.specs.Ends.{IsInRange}
use Rattle.row_lines.proofs.RunTotalLemmas.{back_range, fits_range, set-behind, set-more}
use Rattle.row_lines.proofs.run_totals.add_scaled.Goals as goal
use Rattle.row_lines.proofs.run_totals.add_scaled.Goals.{In-loop-i}

abbrev total_at : (c : In-loop-i) → ℤ
total_at c = get_or c.loop-i.totals c.loop-i.i (pos 0)

abbrev operand_at : (c : In-loop-i) → ℤ
operand_at c = get_or c.args.operands.now c.loop-i.i (pos 0)

-- the total at the place is still the old one
old_is : (c : In-loop-i) → total_at c ≡ get_or c.args.totals.now c.loop-i.i (pos 0)
old_is c = c.loop-i.invariant.behind c.loop-i.i (omega arith)

factor_is : (c : In-loop-i) → to_z w64 (of_z w64 c.args.factor) ≡ c.args.factor
factor_is c = to_z-of_z w64 c.args.factor c.ranges.factor

-- and with the operand it is in range, as it is worked out
scaled_is : (c : In-loop-i) → to_z w64 (of_z w64 (to_z w64 (of_z w64 (operand_at c)) *ℤ to_z w64 (of_z w64 c.args.factor))) ≡ operand_at c *ℤ c.args.factor
scaled_is c =
    let inside = c.loop-i-test.true in
    ap (λ (z : ℤ). to_z w64 (of_z w64 z)) (ap₂ (λ (a b : ℤ). a *ℤ b) (back_range (operand_at c) (c.requires.operands c.loop-i.i inside)) (factor_is c))
    ∙ back_range (operand_at c *ℤ c.args.factor) (scaled_in c)
  where
    scaled_in : (c : In-loop-i) → IsInRange (operand_at c *ℤ c.args.factor)
    scaled_in c = c.requires.scaled c.loop-i.i c.loop-i-test.true

sum_is : (c : In-loop-i) → to_z w64 (of_z w64 (total_at c)) +ℤ to_z w64 (of_z w64 (to_z w64 (of_z w64 (operand_at c)) *ℤ to_z w64 (of_z w64 c.args.factor))) ≡ total_at c +ℤ operand_at c *ℤ c.args.factor
sum_is c =
    ap₂ (λ (a b : ℤ). a +ℤ b) (back_range (total_at c) (subst IsInRange (sym (old_is c)) (c.requires.so_far c.loop-i.i c.loop-i-test.true))) (scaled_is c)

sum_in : (c : In-loop-i) → IsInRange (total_at c +ℤ operand_at c *ℤ c.args.factor)
sum_in c = subst (λ (z : ℤ). IsInRange (z +ℤ operand_at c *ℤ c.args.factor)) (sym (old_is c)) (c.requires.total c.loop-i.i c.loop-i-test.true)

pub overflow_add-total : goal.overflow_add-total
overflow_add-total c =
    let here = (goal.at.overflow_add-total c).In-loop-i in
    subst (FitsSigned w64) (sym (sum_is here)) (fits_range (total_at here +ℤ operand_at here *ℤ c.args.factor) (sum_in here))

pub loop-i-preserved : goal.loop-i-preserved
loop-i-preserved c =
    let here = (goal.at.loop-i-preserved c).In-loop-i in
    let wanted : ℕ → ℤ = λ k. get_or c.args.totals.now k (pos 0) +ℤ get_or c.args.operands.now k (pos 0) *ℤ to_z w64 (of_z w64 c.args.factor) in
    record {
      before = set-more wanted c.loop-i.totals c.loop-i.i _ (omega arith)
          (ap (λ (z : ℤ). to_z w64 (of_z w64 z)) (sum_is here) ∙ back_range (total_at here +ℤ operand_at here *ℤ c.args.factor) (sum_in here)
          ∙ ap₂ (λ (total factor : ℤ). total +ℤ operand_at here *ℤ factor) (old_is here) (sym (factor_is here)))
          c.loop-i.invariant.before;
      behind = set-behind (λ k. get_or c.args.totals.now k (pos 0)) c.loop-i.totals c.loop-i.i _ c.loop-i.invariant.behind;
    }
