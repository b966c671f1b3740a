use Rattle.std.proofs.Common.{◌≡◌, ℕ, ◌+◌, ◌*◌, ◌<◌, length, sym, ap, ◌∙◌, arith}
use Rattle.line_pages.specs.Pieces.{piece_text}
use Rattle.line_pages.specs.Rows.{piece_text_at}
use Rattle.line_pages.proofs.RowLemmas.{piece_text_at-read, texts-next, length-texts-next, texts-fit, place-within}
use Rattle.line_pages.proofs.rows.paste_row.Goals as goal

pub paste-end-requires : goal.paste-end-requires
paste-end-requires c =
    let f = λ (column : ℕ). piece_text_at c.args.pieces.now (column * c.args.stride + c.args.row) in
    omega (arith, texts-fit f c.loop-column._column c.args.columns c.loop-column-test.true, c.requires.room)

pub loop-column-preserved : goal.loop-column-preserved
loop-column-preserved c =
    let pieces = c.args.pieces.now in
    let stride = c.args.stride in
    let row = c.args.row in
    let column = c.loop-column._column in
    let place = c.loop-column.place in
    let f = λ (k : ℕ). piece_text_at pieces (k * stride + row) in
    let within : place < length pieces = omega (arith, place-within column c.args.columns stride row c.loop-column-test.true c.requires.row) in
    let read : piece_text_at pieces place ≡ piece_text c.index-pieces-place.result =
    piece_text_at-read pieces place c.index-pieces-place.result within c.index-pieces-place.is
    in
    let here : piece_text c.index-pieces-place.result ≡ f column = sym read ∙ ap (piece_text_at pieces) c.loop-column.invariant.place in
    let more : (column + 1) * stride ≡ column * stride + stride = omega arith in
    record {
      place = omega arith;
      end = omega (arith, length-texts-next f column, ap length here, c.paste-end.ensures.end);
      text = c.paste-end.ensures.text ∙ texts-next f column _ _ _ c.loop-column.invariant.text here;
    }
