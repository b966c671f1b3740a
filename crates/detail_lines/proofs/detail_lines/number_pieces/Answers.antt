use Rattle.std.proofs.Common.{◌++◌, ◌∷◌, [], List, ap, arith, decimal, map, sym, ◌∙◌}
use Rattle.std.specs.List.{range_with_len}
use Rattle.std.proofs.lemmas.List.{map-append}
use Rattle.std.proofs.lemmas.List.FromFn.{map-range_with_len_more}
use Rattle.line_pages.specs.Pieces.{piece_text}
use Rattle.draw_values.specs.Runs.{with_behind}
use Rattle.detail_lines.proofs.detail_lines.number_pieces.Goals as goal

pub loop-number-preserved : goal.loop-number-preserved
loop-number-preserved c =
    ap (map piece_text) c.in_ok-push.ensures.items
    ∙ map-append piece_text c.loop-number.made.items (c.piece.result ∷ [])
    ∙ ap (λ (texts : List (List _)). texts ++ piece_text c.piece.result ∷ []) c.loop-number.invariant
    ∙ ap (λ (text : List _). map (λ number. with_behind c.args.delimiter (decimal number)) (range_with_len 0 c.loop-number.number) ++ text ∷ []) c.piece.ensures
    ∙ sym (map-range_with_len_more (λ number. with_behind c.args.delimiter (decimal number)) 0 c.loop-number.number c.loop-number.number (omega arith))
