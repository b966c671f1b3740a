use Rattle.std.proofs.Common.{ℕ, ◌+◌, ◌%◌, ap, ◌∙◌}
use Rattle.id_permutation.proofs.RoundLaws.{made-odd}
use Rattle.id_permutation.proofs.network.Network.odd_round.Goals as goal

pub returns-clause-exact : goal.returns-clause-exact
returns-clause-exact c =
    made-odd _ _ _ _ _ c.args.halves c.requires.odd
    (c.add_modulo.ensures ∙ ap (λ (f : ℕ). (c.args.halves.right + f) % c.args.self.now.width) c.round_number-number.ensures)
