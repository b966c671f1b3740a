use Rattle.std.proofs.Common.{◌≤◌, ◌≡◌, ℕ, ◌+◌, ◌*◌, ◌-◌, true, List, length, ap, arith, sym, subst, ◌∙◌, inl, inr}
use Rattle.std.proofs.lemmas.Bool.{cases_lt}
use Rattle.line_pages.specs.declared.piece.Piece.{Piece}
use Rattle.row_lines.specs.RunFields.{AreMade, asked_short}
use Rattle.row_lines.specs.Runs.{RunLinesOf}
use Rattle.row_lines.specs.TableLines.{is_short_at}
use Rattle.row_lines.proofs.ListLemmas.{part_length}
use Rattle.row_lines.proofs.PieceLemmas.{column_behind, columns_within, made_before, made_in}
use Rattle.row_lines.proofs.RunFieldLemmas.{asked-more}
use Rattle.row_lines.proofs.runs.RunLines.put_columns.Goals as goal
use borrow.Rule.Slice.PartMut.{put_mid}

pub loop-column-preserved : goal.loop-column-preserved
loop-column-preserved g c =
    let lines : RunLinesOf = c.args.self.now in
    let ordinals : List ℕ = c.args.rows.ordinals.now in
    let count : ℕ = length ordinals in
    let column : ℕ = c.loop-column.column in
    let old : List Piece = c.loop-column.pieces in
    let new : List Piece = c.put_column.new.pieces in
    let within : column * count + count ≤ length old =
    omega (
      arith,
      columns_within column c.column_count-column-end.result count c.loop-column-test.true,
      ap (λ (n : ℕ). count * n) c.column_count-column-end.ensures.many,
      c.loop-column.auto.pieces,
      c.requires.pieces,
    ) in
    let many : length new ≡ count = c.put_column.auto.pieces ∙ part_length (column * count) count old within in
    record {
      made = λ k below short. elim (cases_lt k column) [
        | inl before ↦ made_before lines ordinals old new (column * count) _ (k * count) k (omega (arith, within)) (column_behind k column count before) (c.loop-column.invariant.made k before short)
        | inr here ↦
            let same : k ≡ column = omega (arith, below, here) in
            subst (λ (j : ℕ). AreMade lines ordinals (put_mid (column * count) (column * count + count - column * count) old new) (j * count) j) (sym same)
            (made_in lines ordinals old new (column * count) (column * count + count - column * count) column (omega (arith, within)) many
            (c.put_column.ensures.made (subst (λ (j : ℕ). is_short_at lines.plan lines.table j ≡ true) same short)))
      ];
      known = c.put_column.ensures.known;
      steps = asked-more (asked_short lines) column count _ _ _ c.loop-column.invariant.steps c.put_column.ensures.steps;
    }
