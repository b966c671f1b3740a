use Rattle.std.proofs.Common.{ℕ, ◌+◌, ◌%◌, sym, ap, ◌∙◌}
use Rattle.id_permutation.proofs.RoundLaws.{even_round-made}
use Rattle.id_permutation.proofs.network.Network.undo_even_round.Goals as goal

pub returns-clause-undone : goal.returns-clause-undone
returns-clause-undone c =
    even_round-made _ _ _ _ _ c.args.halves c.requires.even
    (ap (λ (f : ℕ). (c.subtract_modulo.result + f) % c.args.self.now.height) (sym c.round_number-number.ensures) ∙ c.subtract_modulo.ensures.undone)
