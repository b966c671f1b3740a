use Rattle.std.proofs.Common.{ℕ, ◌+◌, ◌-◌, ◌%◌, ap, ◌∙◌}
use Rattle.id_permutation.proofs.ModuloLaws.{lacking_and_add}
use Rattle.id_permutation.proofs.halves.subtract_modulo.Goals as goal

pub returns-clause-undone : goal.returns-clause-undone
returns-clause-undone c =
    let m = c.args.modulus in
    ap (λ (rest : ℕ). (rest + c.args.subtrahend) % m)
    (c.reduce.ensures.exact
    ∙ ap (λ (n : ℕ). (c.args.x + (n - c.remainder-taken.result)) % n) c.number-number.ensures.number
    ∙ ap (λ (taken : ℕ). (c.args.x + (m - taken)) % m) c.remainder-taken.ensures.exact)
    ∙ lacking_and_add c.args.x c.args.subtrahend m c.requires.below
