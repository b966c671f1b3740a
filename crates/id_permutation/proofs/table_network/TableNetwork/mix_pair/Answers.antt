use Rattle.std.proofs.Common.{ℕ, ◌+◌, ◌%◌, ap, ◌∙◌, arith}
use Rattle.id_permutation.proofs.TableLaws.{two_rounds-exact}
use Rattle.id_permutation.proofs.table_network.TableNetwork.mix_pair.Goals as goal

pub returns-clause-exact : goal.returns-clause-exact
returns-clause-exact c =
    two_rounds-exact _ _ _ _ c.args.halves _ _ _ _ (omega arith) c.even_value-added.ensures.exact
    (c.reduce-left.ensures.exact ∙ ap (λ (a : ℕ). (c.args.halves.left + c.even_value-added.result) % a) c.number-height.ensures.number)
    c.odd_value-added.ensures.exact
    (c.reduce-right.ensures.exact ∙ ap (λ (b : ℕ). (c.args.halves.right + c.odd_value-added.result) % b) c.number-width.ensures.number)
