use Rattle.std.proofs.Common.{◌≡◌, ◌-◌, ◌+◌, ◌*◌, ◌++◌, ℕ, List, arith, ap, ◌∙◌}
use Rattle.row_lines.proofs.RunTextLemmas.{appended-more, sizes-more}
use Rattle.detail_lines.specs.declared.detail_lines.LineKind.TheVariants.{Whole}
use Rattle.detail_lines.specs.declared.parent_row.ParentRow.{ParentRow}
use Rattle.detail_lines.specs.Made.{LinesOver, made_row}
use Rattle.detail_lines.proofs.LineListLemmas.{rows_between, rows_between-more}
use Rattle.detail_lines.proofs.detail_lines.DetailLines.put_rows_between.Goals as goal

pub loop-i-preserved : goal.loop-i-preserved
loop-i-preserved g c =
    let over : LinesOver = c.args.self.now in
    let unit : ℕ = c.args.at.now.unit in
    let first : ℕ = c.args.first in
    let i : ℕ = c.loop-i.i in
    let so_far : List ℕ = rows_between over unit c.args.rows.now first i in
    let next : i - first + 1 ≡ i + 1 - first = omega (arith, c.loop-i.invariant.ordered) in
    let row = ap (λ (one : ParentRow). made_row over Whole unit one.ordinal) c.row-row.ensures in
    let more = ap (λ (text : List ℕ). so_far ++ text) row ∙ rows_between-more over unit c.args.rows.now first i c.loop-i.invariant.ordered in
    record {
      ordered = omega (arith, c.loop-i.invariant.ordered);
      text = appended-more c.args.page.now c.loop-i.page c.put_lines.new.page so_far _ _ c.loop-i.invariant.text c.put_lines.ensures.text more;
      size = omega (arith, sizes-more so_far _ _ (i - first) 1 over.kept.reach more c.loop-i.invariant.size (omega (arith, c.put_lines.ensures.size)), ap (λ (n : ℕ). n * over.kept.reach) next);
    }
