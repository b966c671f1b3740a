use Rattle.std.proofs.Common.{ℕ, ◌+◌, ◌%◌, ap, ◌∙◌}
use Rattle.std.proofs.Math.Nat.{add-mod-mod}
use Rattle.id_permutation.proofs.halves.add_modulo.Goals as goal

pub returns : goal.returns
returns c =
    c.reduce.ensures.exact
    ∙ ap (λ (added : ℕ). (c.args.x + added) % c.number.result) c.remainder-added.ensures.exact
    ∙ ap (λ (m : ℕ). (c.args.x + c.args.addend % c.args.modulus) % m) c.number.ensures.number
    ∙ add-mod-mod c.args.x c.args.addend c.args.modulus
