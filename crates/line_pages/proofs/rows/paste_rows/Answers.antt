use Rattle.std.proofs.Common.{refl, ◌∙◌, arith}
use Rattle.line_pages.specs.Rows.{row_of_pieces}
use Rattle.line_pages.proofs.RowLemmas.{texts-next, length-texts-next, texts-fit}
use Rattle.line_pages.proofs.rows.paste_rows.Goals as goal

pub paste_row-end-requires-clause-room : goal.paste_row-end-requires-clause-room
paste_row-end-requires-clause-room c =
    let f = row_of_pieces c.args.pieces.now c.args.columns c.args.stride in
    omega (arith, texts-fit f c.loop-row.row c.args.count c.loop-row-test.true, c.requires.room)

pub loop-row-preserved : goal.loop-row-preserved
loop-row-preserved c =
    let f = row_of_pieces c.args.pieces.now c.args.columns c.args.stride in
    record {
      end = omega (arith, length-texts-next f c.loop-row.row, c.paste_row-end.ensures.end);
      text = c.paste_row-end.ensures.text ∙ texts-next f c.loop-row.row _ _ _ c.loop-row.invariant.text refl;
    }
