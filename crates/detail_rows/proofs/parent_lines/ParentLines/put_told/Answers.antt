use Rattle.std.proofs.Common.{◌≡◌, ◌*◌, ◌++◌, ℕ, List, ap, arith, length, ◌∙◌}
use Rattle.detail_lines.specs.declared.detail_lines.LineKind.{LineKind}
use Rattle.detail_lines.specs.declared.parent_row.ParentRows.{ParentRows}
use Rattle.detail_lines.specs.Made.{LinesOver, made_rows}
use Rattle.detail_rows.specs.Packages.{listed_text}
use Rattle.detail_rows.proofs.ParentLemmas.{rows-listed}
use Rattle.detail_rows.proofs.parent_lines.ParentLines.put_told.Goals as goal

-- the lines of the rows are those that are listed
text_is : (made over : LinesOver) (kind : LineKind) (unit : ℕ) (rows : ParentRows) → made ≡ over → made_rows made kind unit rows (length rows.ordinals.now) ≡ listed_text over.plan over.kept kind unit rows.ordinals.now
text_is made over kind unit rows is = ap (λ (lines : LinesOver). made_rows lines kind unit rows (length rows.ordinals.now)) is ∙ rows-listed over kind unit rows

pub returns-clause-text : goal.returns-clause-text
returns-clause-text g c =
    c.put_rows.ensures.text
    ∙ ap (λ (text : List ℕ). record { text = c.args.page.now.text ++ text; room = c.args.page.now.room }) (text_is c.lines.result.now c.args.self.now c.args.kind c.args.t c.args.told.now c.lines.ensures.value)

pub returns-clause-size : goal.returns-clause-size
returns-clause-size g c =
    omega (
      arith,
      ap (λ (text : List ℕ). length text) (text_is c.lines.result.now c.args.self.now c.args.kind c.args.t c.args.told.now c.lines.ensures.value),
      ap (λ (lines : LinesOver). length c.args.told.now.ordinals.now * lines.kept.reach) c.lines.ensures.value,
      c.put_rows.ensures.size,
    )
