use Rattle.std.proofs.Common.{ℕ, ap, ◌∙◌, arith}
use Rattle.philox_seeds.specs.SeedTree.{draw}
use Rattle.draw_values.specs.Runs.{DrawnColumnOf, run_seed, text_by, with_behind}
use Rattle.draw_values.proofs.drawn_column.DrawnColumn.fill_drawn.Goals as goal

pub returns : goal.returns
returns c = λ i within.
    c.fill_leaf.ensures i within
    ∙ ap (λ (number : ℕ). with_behind c.self.inside.behind (text_by c.args.leaf.now number)) (c.put_run_draws.ensures i (omega (arith, c.requires.draws)))
    ∙ ap (λ (run : DrawnColumnOf). with_behind run.behind (text_by c.args.leaf.now (draw (run_seed c.args.self.now.seed c.args.changes c.args.rows i) 1))) c.self.view_is
