use Rattle.std.proofs.Common.{◌∷◌, ◌%◌, ℕ, [], List, if◌then◌else◌, get_or, map, nat_lt, ap, ◌∙◌, arith}
use Rattle.philox_seeds.specs.SeedTree.{draw}
use Rattle.line_pages.specs.Pieces.{piece_text}
use Rattle.draw_values.specs.Runs.{DrawnColumnOf, run_seed}
use Rattle.draw_values.proofs.drawn_column.DrawnColumn.put_null_pieces.Goals as goal

pub returns : goal.returns
returns c = λ i within.
    let before : List ℕ = get_or (map piece_text c.args.pieces.now) i [] in
    let drawn : ℕ = draw (run_seed c.args.self.now.seed c.args.own.now.changes c.args.rows i) 0 in
    c.put_nulls.ensures i within
    ∙ ap (λ (number : ℕ). if nat_lt (number % 1000) c.args.own.now.null then piece_text c.text_piece.result else before) (c.put_run_draws.ensures i (omega (arith, c.requires.draws)))
    ∙ ap (λ (text : List ℕ). if nat_lt (drawn % 1000) c.args.own.now.null then text else before) c.text_piece.ensures
    ∙ ap (λ (run : DrawnColumnOf). if nat_lt (drawn % 1000) c.args.own.now.null then 92 ∷ 78 ∷ run.behind ∷ [] else before) c.self.view_is
