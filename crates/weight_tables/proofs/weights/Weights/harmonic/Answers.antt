use Rattle.std.proofs.Common.{◌≡◌, ℕ, ◌∙◌, ap, arith}
use Rattle.weight_tables.specs.Harmonic.{harmonic_weights}
use Rattle.weight_tables.proofs.HarmonicLemmas.{harmonic_weights-none, harmonic_weights-push, length-harmonic_weights, All-harmonic_weights, sum-harmonic_weights}
use Rattle.weight_tables.proofs.weights.Weights.harmonic.Goals as goal

pub loop-group-init : goal.loop-group-init
loop-group-init c = rw (harmonic_weights-none c.args.power) c.in_ok-list.ensures.items

pub loop-group-preserved : goal.loop-group-preserved
loop-group-preserved c =
    let one_more = harmonic_weights-push c.loop-group.group c.args.power in
    rw (one_more, ← c.harmonic_weight.ensures, ← c.loop-group.invariant) c.in_ok-push.ensures.items

made : (c : goal.After-deref) → c.deref.result.now ≡ harmonic_weights c.args.size c.args.power
made c =
    let all : c.loop-group.group ≡ c.args.size = omega arith in
    c.deref.ensures.value ∙ c.loop-group.invariant ∙ ap (λ (n : ℕ). harmonic_weights n c.args.power) all

pub new-requires : goal.new-requires
new-requires c =
    let size = length-harmonic_weights c.args.size c.args.power in
    rw (made c)
    (record {
      some = omega arith;
      positive = All-harmonic_weights c.args.size c.args.power;
      small = sum-harmonic_weights c.args.size c.args.power c.requires.few c.requires.least_power;
    })
