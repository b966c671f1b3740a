use Rattle.std.proofs.Common.{ℕ, List, get_or, ap, ◌∙◌, arith}
use Rattle.std.proofs.lemmas.List.{get_or-map}
use Rattle.philox_seeds.specs.SeedTree.{draw}
use Rattle.draw_values.proofs.drawn_column.DrawnColumn.put_run_draws.Goals as goal

pub returns : goal.returns
returns c = λ i within.
    ap (λ (draws : List ℕ). get_or draws i 0) c.put_draws.ensures
    ∙ get_or-map (λ (seed : ℕ). draw seed c.args.n) c.put_seeds.new.seeds i 0 0 (omega (arith, c.put_seeds.auto.seeds, c.requires.same))
    ∙ ap (λ (seed : ℕ). draw seed c.args.n) (c.put_seeds.ensures i (omega (arith, c.requires.same)))
