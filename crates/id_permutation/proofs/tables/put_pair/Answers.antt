use Rattle.std.proofs.Common.{ℕ, ◌+◌, ◌*◌, List, ◌++◌, ap, ◌∙◌, append_assoc}
use Rattle.id_permutation.specs.Tables.{round_values, pair_values}
use Rattle.id_permutation.proofs.tables.put_pair.Goals as goal

pub returns : goal.returns
unfolding pair_values
returns c =
    let network = c.args.network.now in
    let even : ℕ → List ℕ = λ count. round_values network.seed (2 * c.args.pair) network.height count in
    let odd : ℕ → List ℕ = λ count. round_values network.seed (2 * c.args.pair + 1) network.width count in
    c.in_ok-put_round-2.ensures
    ∙ ap (λ (count : ℕ). c.put_round.new.tables.items ++ odd count) c.number-height.ensures.number
    ∙ ap (λ (tables : List ℕ). tables ++ odd network.height)
    (c.in_ok-put_round.ensures ∙ ap (λ (count : ℕ). c.args.tables.now.items ++ even count) c.number-width.ensures.number)
    ∙ append_assoc c.args.tables.now.items (even network.width) (odd network.height)
