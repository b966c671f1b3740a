use Rattle.std.proofs.Common.{ℕ, [], get_or, map, sym, arith}
use Rattle.line_pages.specs.Pieces.{piece_text}
use Rattle.draw_values.proofs.PieceLemmas.{text-read, text-written}
use Rattle.draw_values.proofs.run_loops.fill_kept.Goals as goal

pub loop-i-preserved : goal.loop-i-preserved
loop-i-preserved c =
    text-written (λ (k : ℕ). get_or (map piece_text c.args.kept.now) (get_or c.args.numbers.now k 0) []) c.loop-i.pieces c.loop-i.i c.index-kept-numbers.result (omega arith) c.loop-i.invariant
    (sym (text-read c.args.kept.now (get_or c.args.numbers.now c.loop-i.i 0) c.index-kept-numbers.result (c.requires.within c.loop-i.i (omega arith)) c.index-kept-numbers.is))
