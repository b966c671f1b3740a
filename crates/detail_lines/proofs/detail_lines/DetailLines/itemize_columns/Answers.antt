use Rattle.std.proofs.Common.{◌≡◌, ◌≤◌, ◌+◌, ◌*◌, ◌-◌, ℕ, List, true, length, arith, inl, inr, subst, sym, ◌∙◌}
use Rattle.std.proofs.lemmas.Bool.{cases_lt}
use Rattle.std.proofs.Math.Nat.{mul-le-mul_left}
use Rattle.draw_values.specs.declared.items.ItemizedField.{ItemizedField}
use Rattle.draw_values.specs.Runs.{is_itemized}
use Rattle.row_lines.proofs.ListLemmas.{part_length}
use Rattle.detail_lines.specs.LineRuns.{AreItems}
use Rattle.detail_lines.specs.Made.{LinesOver, own_over, ready_over}
use Rattle.detail_lines.proofs.LineMixedLemmas.{items-before, items-in}
use Rattle.detail_lines.proofs.detail_lines.DetailLines.itemize_columns.Goals as goal
use borrow.Rule.Slice.PartMut.{put_mid}

within_all : (column own count : ℕ) → column + 1 ≤ own → (column + 2) * count + count ≤ count * (own + 2)
within_all column own count below = let next : column + 3 ≤ own + 2 = omega (arith, below) in omega (arith, mul-le-mul_left count next)

before_it : (k column count : ℕ) → k + 1 ≤ column → (k + 2) * count + count ≤ (column + 2) * count
before_it k column count before = let next : k + 3 ≤ column + 2 = omega (arith, before) in omega (arith, mul-le-mul_left count next)

pub loop-column-preserved : goal.loop-column-preserved
loop-column-preserved c =
    let over : LinesOver = c.args.self.now in
    let count : ℕ = c.args.count in
    let column : ℕ = c.loop-column.column in
    let old : List ItemizedField = c.loop-column.items in
    let new : List ItemizedField = c.itemize_column.new.fields in
    let within : (column + 2) * count + count ≤ length old =
    omega (arith, within_all column (own_over over) count (omega (arith, c.loop-column-test.true, c.columns-column-end.ensures.many, c.loop-column.auto.column-end)), c.requires.items, c.loop-column.auto.items) in
    let many : length new ≡ count = c.itemize_column.auto.fields ∙ part_length ((column + 2) * count) count old within in
    λ k below itemized. elim (cases_lt k column) [
      | inl before ↦ items-before over count c.args.run.now old new ((column + 2) * count) _ ((k + 2) * count) k (omega (arith, within)) (before_it k column count (omega (arith, before))) (c.loop-column.invariant k before itemized)
      | inr here ↦
          let same : k ≡ column = omega (arith, below, here) in
          subst (λ (j : ℕ). AreItems over count c.args.run.now (put_mid ((column + 2) * count) ((column + 2) * count + count - (column + 2) * count) old new) ((j + 2) * count) j) (sym same)
          (items-in over count c.args.run.now old new ((column + 2) * count) ((column + 2) * count + count - (column + 2) * count) column (omega (arith, within)) many
          (c.itemize_column.ensures (subst (λ (j : ℕ). is_itemized (ready_over over j).kind ≡ true) same itemized)))
    ]
