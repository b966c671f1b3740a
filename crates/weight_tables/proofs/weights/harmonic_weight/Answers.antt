use Rattle.std.proofs.Common.{ℕ, ◌^◌, ◌/◌, max, ap, ◌∙◌, arith}
use Rattle.weight_tables.specs.Harmonic.{harmonic_weight}
use Rattle.weight_tables.proofs.HarmonicLemmas.{divisor-some, divisor-fits}
use Rattle.weight_tables.proofs.weights.harmonic_weight.Goals as goal

pub pow-requires : goal.pow-requires
pow-requires c =
    rw c.from.ensures
    (omega (arith, divisor-fits c.args.group c.args.power c.requires.few c.requires.greatest_power))

pub nonzero_div-pow : goal.nonzero_div-pow
nonzero_div-pow c = rw (c.pow.ensures, c.from.ensures) (divisor-some c.args.group c.args.power)

pub returns : goal.returns
unfolding harmonic_weight
returns c =
    let divisor = c.pow.ensures ∙ ap (λ (n : ℕ). n ^ c.args.power) c.from.ensures in
    c.max.ensures ∙ ap (λ (n : ℕ). max (1000000000 / n) 1) divisor ∙ omega arith
