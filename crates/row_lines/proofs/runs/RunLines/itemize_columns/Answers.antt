use Rattle.std.proofs.Common.{◌≤◌, ◌≡◌, ℕ, ◌+◌, ◌*◌, ◌-◌, true, List, length, ap, arith, sym, subst, ◌∙◌, inl, inr}
use Rattle.std.proofs.lemmas.Bool.{cases_lt}
use Rattle.draw_values.specs.declared.items.ItemizedField.{ItemizedField}
use Rattle.row_lines.specs.RunFields.{AreItemized}
use Rattle.row_lines.specs.Runs.{RunLinesOf}
use Rattle.row_lines.specs.TableLines.{column_of}
use Rattle.row_lines.proofs.ItemizedLemmas.{itemized_before, itemized_in}
use Rattle.row_lines.proofs.ListLemmas.{part_length}
use Rattle.row_lines.proofs.PieceLemmas.{column_behind, columns_within}
use Rattle.row_lines.proofs.runs.RunLines.itemize_columns.Goals as goal
use borrow.Rule.Slice.PartMut.{put_mid}

pub loop-column-preserved : goal.loop-column-preserved
loop-column-preserved c =
    let lines : RunLinesOf = c.args.self.now in
    let count : ℕ = length c.args.rows.ordinals.now in
    let column : ℕ = c.loop-column.column in
    let old : List ItemizedField = c.loop-column.items in
    let new : List ItemizedField = c.itemize_column.new.fields in
    let within : column * count + count ≤ length old =
    omega (
      arith,
      columns_within column c.column_count-column-end.result count c.loop-column-test.true,
      ap (λ (n : ℕ). count * n) c.column_count-column-end.ensures.many,
      c.loop-column.auto.items,
      c.requires.items,
    ) in
    let many : length new ≡ count = c.itemize_column.auto.fields ∙ part_length (column * count) count old within in
    λ k below itemized. elim (cases_lt k column) [
      | inl before ↦ itemized_before lines c.args.rows old new (column * count) _ (k * count) k (omega (arith, within)) (column_behind k column count before) (c.loop-column.invariant k before itemized)
      | inr here ↦
          let same : k ≡ column = omega (arith, below, here) in
          subst (λ (j : ℕ). AreItemized lines c.args.rows (put_mid (column * count) (column * count + count - column * count) old new) (j * count) j) (sym same)
          (itemized_in lines c.args.rows old new (column * count) (column * count + count - column * count) column (omega (arith, within)) many
          (c.itemize_column.ensures (subst (λ (j : ℕ). (column_of lines.plan lines.table j).itemized ≡ true) same itemized)))
    ]
