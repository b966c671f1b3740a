use Rattle.std.proofs.Common.{ℕ, ◌+◌, ◌%◌, ap, ◌∙◌}
use Rattle.id_permutation.proofs.RoundLaws.{made-even}
use Rattle.id_permutation.proofs.network.Network.even_round.Goals as goal

pub returns-clause-exact : goal.returns-clause-exact
returns-clause-exact c =
    made-even _ _ _ _ _ c.args.halves c.requires.even
    (c.add_modulo.ensures ∙ ap (λ (f : ℕ). (c.args.halves.left + f) % c.args.self.now.height) c.round_number-number.ensures)
