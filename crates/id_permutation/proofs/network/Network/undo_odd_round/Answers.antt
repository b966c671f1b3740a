use Rattle.std.proofs.Common.{ℕ, ◌+◌, ◌%◌, sym, ap, ◌∙◌}
use Rattle.id_permutation.proofs.RoundLaws.{odd_round-made}
use Rattle.id_permutation.proofs.network.Network.undo_odd_round.Goals as goal

pub returns-clause-undone : goal.returns-clause-undone
returns-clause-undone c =
    odd_round-made _ _ _ _ _ c.args.halves c.requires.odd
    (ap (λ (f : ℕ). (c.subtract_modulo.result + f) % c.args.self.now.width) (sym c.round_number-number.ensures) ∙ c.subtract_modulo.ensures.undone)
