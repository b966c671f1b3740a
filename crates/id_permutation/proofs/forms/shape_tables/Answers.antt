use Rattle.std.proofs.Common.{ℕ, ap, ◌∙◌}
use Rattle.id_permutation.specs.Placement.{height_of, width_of}
use Rattle.id_permutation.specs.Tables.{tables_of}
use Rattle.id_permutation.proofs.SideLaws.{height-few, width-few}
use Rattle.id_permutation.proofs.forms.shape_tables.Goals as goal

pub tables-requires-clause-low : goal.tables-requires-clause-low
tables-requires-clause-low c = height-few _ _ _ c.requires c.network-network.ensures.size c.network-network.result.tall

pub tables-requires-clause-narrow : goal.tables-requires-clause-narrow
tables-requires-clause-narrow c = width-few _ _ _ c.network-network.result.some c.requires c.network-network.ensures.size c.network-network.result.wide

pub returns : goal.returns
returns c =
    let network = c.network-network.result in
    c.in_ok-tables.ensures
    ∙ ap (λ (a : ℕ). tables_of a network.width network.seed) (network.tall ∙ ap height_of c.network-network.ensures.size)
    ∙ ap (λ (b : ℕ). tables_of (height_of c.args.shape.now) b network.seed) (network.wide ∙ ap width_of c.network-network.ensures.size)
    ∙ ap (λ (seed : ℕ). tables_of (height_of c.args.shape.now) (width_of c.args.shape.now) seed) c.network-network.ensures.seed
