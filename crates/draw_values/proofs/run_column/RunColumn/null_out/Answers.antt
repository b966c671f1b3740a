use Rattle.std.proofs.Common.{◌≡◌, ◌∷◌, Bool, [], if◌then◌else◌, get_or, map, ap, subst, ◌∙◌}
use Rattle.philox_seeds.specs.SeedTree.{draw}
use Rattle.line_pages.specs.Pieces.{piece_text}
use Rattle.draw_values.specs.Runs.{DrawnColumnOf, RunColumnOf, drawn_of, null_behind, run_seed}
use Rattle.draw_values.specs.Values.{is_null}
use Rattle.draw_values.proofs.RunLemmas.{null_in, own_ready}
use Rattle.draw_values.proofs.run_column.RunColumn.null_out.Goals as goal

pub returns : goal.returns
returns c = λ i within.
    let run : RunColumnOf = c.args.self.now in
    let own = c.index-columns-self.result in
    let is = own_ready c.args.plan.now run c.columns-columns.result.now own c.self.inside.table c.self.inside.column c.requires.column c.columns-columns.ensures.columns
    (ap (λ (r : RunColumnOf). r.table) c.self.view_is) (ap (λ (r : RunColumnOf). r.column) c.self.view_is) c.index-columns-self.is in
    subst (λ (column : DrawnColumnOf). get_or (map piece_text c.null_out.new.pieces) i []
    ≡ (if is_null own.null (draw (run_seed column.seed own.changes c.args.rows i)) then null_behind column.behind else get_or (map piece_text c.args.pieces.now) i []))
    (ap drawn_of c.self.view_is) (c.null_out.ensures i within)
    ∙ ap (λ (null : Bool). if null then 92 ∷ 78 ∷ run.behind ∷ [] else get_or (map piece_text c.args.pieces.now) i []) (null_in c.args.plan.now run own c.args.rows i c.requires.column is)
