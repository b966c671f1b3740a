use Rattle.std.proofs.Common.{ℕ, ◌+◌, ◌-◌, ◌%◌, ap, ◌∙◌, arith}
use Rattle.id_permutation.proofs.TableLaws.{two_rounds-undone}
use Rattle.id_permutation.proofs.table_network.TableNetwork.unmix_pair.Goals as goal

pub returns-clause-undone : goal.returns-clause-undone
returns-clause-undone c =
    two_rounds-undone _ _ _ _ c.args.halves _ _ _ _ (omega arith) c.requires.within.left_below c.requires.within.right_below c.odd_value-taken.ensures.exact
    (c.reduce-right.ensures.exact ∙ ap (λ (b : ℕ). (c.args.halves.right + (b - c.odd_value-taken.result)) % b) c.number-width.ensures.number)
    c.even_value-taken.ensures.exact
    (c.reduce-left.ensures.exact ∙ ap (λ (a : ℕ). (c.args.halves.left + (a - c.even_value-taken.result)) % a) c.number-height.ensures.number)
