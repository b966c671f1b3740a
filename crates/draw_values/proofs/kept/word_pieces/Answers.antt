use Rattle.std.proofs.Common.{ap, map, ◌∙◌, arith}
use Rattle.line_pages.specs.Pieces.{piece_text}
use Rattle.draw_values.proofs.KeptLemmas.{pieces_more, short_at}
use Rattle.draw_values.proofs.kept.word_pieces.Goals as goal

pub text_piece-requires : goal.text_piece-requires
text_piece-requires c = short_at c.args.words.now.entries c.loop-i.i c.entry.result.now c.requires (omega arith) c.entry.ensures

pub loop-i-preserved : goal.loop-i-preserved
loop-i-preserved c =
    ap (map piece_text) c.in_ok-push.ensures.items
    ∙ pieces_more c.args.behind c.args.words.now.entries c.loop-i.i c.entry.result.now c.loop-i.pieces.items c.text_piece.result (omega arith) c.entry.ensures c.loop-i.invariant c.text_piece.ensures
