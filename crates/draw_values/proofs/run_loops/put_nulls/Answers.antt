use Rattle.std.proofs.Common.{◌≡◌, ℕ, ◌%◌, [], List, if◌then◌else◌, get_or, map, nat_lt, ap, sym, ◌∙◌, arith}
use Rattle.std.proofs.lemmas.List.{get_or-map}
use Rattle.line_pages.specs.Pieces.{piece_text}
use Rattle.draw_values.proofs.PieceLemmas.{text-kept, text-written}
use Rattle.draw_values.proofs.run_loops.put_nulls.Goals as goal

pub loop-i-preserved : goal.loop-i-preserved
loop-i-preserved c =
    let i : ℕ = c.loop-i.i in
    let old : ℕ → List ℕ = λ (k : ℕ). get_or (map piece_text c.args.pieces.now) k [] in
    let nulled : ℕ → List ℕ → List ℕ = λ (k : ℕ) (text : List ℕ). if nat_lt (get_or c.args.draws.now k 0 % 1000) c.args.null then piece_text c.args.null_piece else text in
    let was : piece_text (get_or c.loop-i.pieces i c.index-pieces-i.result) ≡ old i =
    sym (get_or-map piece_text c.loop-i.pieces i c.index-pieces-i.result [] (omega arith)) ∙ c.loop-i.invariant.kept i (omega arith) (omega arith) in
    record {
      written = text-written (λ (k : ℕ). nulled k (old k)) c.loop-i.pieces i c.selected.result (omega arith) c.loop-i.invariant.written (c.selected.ensures ∙ ap (nulled i) was);
      kept = text-kept old c.loop-i.pieces i c.selected.result c.loop-i.invariant.kept;
    }
