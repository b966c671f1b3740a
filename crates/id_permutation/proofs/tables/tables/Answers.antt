use Rattle.std.proofs.Common.{ℕ, List, ◌++◌, ap, ◌∙◌}
use Rattle.id_permutation.specs.Tables.{pair_values, tables_of}
use Rattle.id_permutation.proofs.tables.tables.Goals as goal

pub returns : goal.returns
unfolding tables_of
returns c =
    let network = c.args.network.now in
    let values : ℕ → List ℕ = pair_values network.height network.width network.seed in
    c.in_ok-put_pair-3.ensures
    ∙ ap (λ (tables : List ℕ). tables ++ values 2) (c.in_ok-put_pair-2.ensures
    ∙ ap (λ (tables : List ℕ). tables ++ values 1) (c.in_ok-put_pair.ensures
    ∙ ap (λ (tables : List ℕ). tables ++ values 0) c.in_ok-tables.ensures.items))
