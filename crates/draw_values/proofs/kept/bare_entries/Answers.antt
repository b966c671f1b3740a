use Rattle.std.proofs.Common.{ap, map, ◌∙◌, arith}
use Rattle.line_pages.specs.Pieces.{piece_text}
use Rattle.draw_values.proofs.KeptLemmas.{bare_more, short_at}
use Rattle.draw_values.proofs.kept.bare_entries.Goals as goal

pub of-requires : goal.of-requires
of-requires c = omega (arith, short_at c.args.entries.now c.loop-i.i c.get.result.now c.requires (omega arith) c.get.ensures)

pub loop-i-preserved : goal.loop-i-preserved
loop-i-preserved c =
    ap (map piece_text) c.in_ok-push.ensures.items
    ∙ bare_more c.args.entries.now c.loop-i.i c.get.result.now c.loop-i.pieces.items c.of.result (omega arith) c.get.ensures c.loop-i.invariant c.of.ensures
