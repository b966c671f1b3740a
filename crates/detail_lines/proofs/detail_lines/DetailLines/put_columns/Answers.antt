use Rattle.std.proofs.Common.{◌≡◌, ◌≤◌, ◌+◌, ◌*◌, ◌-◌, ℕ, List, false, get_or, get_or-set_other, get_or-set_same, set, length, arith, ap, inl, inr, subst, sym, ◌∙◌}
use Rattle.std.proofs.lemmas.Bool.{cases_lt}
use Rattle.std.proofs.Math.Nat.{mul-le-mul_left}
use Rattle.line_pages.specs.declared.piece.Piece.{Piece}
use Rattle.row_lines.proofs.ListLemmas.{part_length}
use Rattle.detail_lines.specs.LineRuns.{AreFields}
use Rattle.detail_lines.specs.Made.{LinesOver, own_over}
use Rattle.detail_lines.proofs.LineListLemmas.{fields-before, fields-in, heads-before}
use Rattle.detail_lines.proofs.detail_lines.DetailLines.put_columns.Goals as goal
use borrow.Rule.Slice.PartMut.{put_mid}

-- where columns stand that have so many pieces each
within_all : (column own count : ℕ) → column + 1 ≤ own → (column + 2) * count + count ≤ count * (own + 2)
within_all column own count below = let next : column + 3 ≤ own + 2 = omega (arith, below) in omega (arith, mul-le-mul_left count next)

before_it : (k column count : ℕ) → k + 1 ≤ column → (k + 2) * count + count ≤ (column + 2) * count
before_it k column count before = let next : k + 3 ≤ column + 2 = omega (arith, before) in omega (arith, mul-le-mul_left count next)

heads_first : (column count : ℕ) → 2 * count ≤ (column + 2) * count
heads_first column count = let next : 2 ≤ column + 2 = omega arith in omega (arith, mul-le-mul_left count next)

pub loop-column-preserved : goal.loop-column-preserved
loop-column-preserved c =
    let over : LinesOver = c.args.self.now in
    let count : ℕ = c.args.count in
    let column : ℕ = c.loop-column.column in
    let old : List Piece = c.loop-column.pieces in
    let new : List Piece = c.put_column.new.pieces in
    let within : (column + 2) * count + count ≤ length old =
    omega (arith, within_all column (own_over over) count (omega (arith, c.loop-column-test.true, c.columns-column-end.ensures.many, c.loop-column.auto.column-end)), c.requires.pieces, c.loop-column.auto.pieces) in
    let many : length new ≡ count = c.put_column.auto.pieces ∙ part_length ((column + 2) * count) count old within in
    record {
      heads = λ heads. heads-before over count ((column + 2) * count) _ c.args.run.now old new (heads_first column count) (omega (arith, within)) (c.loop-column.invariant.heads heads);
      fields = λ k below flag. elim (cases_lt k column) [
        | inl before ↦ fields-before over c.args.at.now.unit count c.args.run.now old new ((column + 2) * count) _ ((k + 2) * count) k (omega (arith, within)) (before_it k column count (omega (arith, before))) (c.loop-column.invariant.fields k before (sym (get_or-set_other c.loop-column.made column k c.put_column.result false (λ same. absurd (omega (arith, before, same)))) ∙ flag))
        | inr here ↦
            let same : k ≡ column = omega (arith, below, here) in
            subst (λ (j : ℕ). AreFields over c.args.at.now.unit count c.args.run.now (put_mid ((column + 2) * count) ((column + 2) * count + count - (column + 2) * count) old new) ((j + 2) * count) j) (sym same)
            (fields-in over c.args.at.now.unit count c.args.run.now old new ((column + 2) * count) ((column + 2) * count + count - (column + 2) * count) column (omega (arith, within)) many (c.put_column.ensures (sym (get_or-set_same c.loop-column.made column c.put_column.result false (omega (arith, c.loop-column-test.true, c.columns-column-end.ensures.many, c.loop-column.auto.column-end, c.loop-column.auto.made, c.requires.flags))) ∙ ap (λ (place : ℕ). get_or (set c.loop-column.made column c.put_column.result) place false) (sym same) ∙ flag)))
      ];
    }
