use Rattle.std.proofs.Common.{ℕ, [], get_or, ap, sym, ◌∙◌, arith}
use Rattle.std.proofs.lemmas.Option.{get_or_from_slice_get}
use Rattle.draw_values.specs.Runs.{with_behind}
use Rattle.draw_values.proofs.KeptLemmas.{short_at}
use Rattle.draw_values.proofs.PieceLemmas.{text-written}
use Rattle.draw_values.proofs.run_pieces.fill_entries.Goals as goal

pub text_piece-requires : goal.text_piece-requires
text_piece-requires c = short_at c.args.entries.now (get_or c.args.places.now c.loop-i.i 0) c.get.result.now c.requires.short (c.requires.within c.loop-i.i (omega arith)) c.get.ensures

pub loop-i-preserved : goal.loop-i-preserved
loop-i-preserved c =
    text-written (λ (k : ℕ). with_behind c.args.behind (get_or c.args.entries.now (get_or c.args.places.now k 0) [])) c.loop-i.pieces c.loop-i.i c.text_piece.result (omega arith) c.loop-i.invariant
    (c.text_piece.ensures ∙ ap (with_behind c.args.behind) (sym (get_or_from_slice_get c.args.entries.now (get_or c.args.places.now c.loop-i.i 0) c.get.result.now [] c.get.ensures)))
