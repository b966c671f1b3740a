use Rattle.std.proofs.Common.{◌≡◌, ℕ, ◌+◌, ◌/◌, ◌^◌, ◌<◌, max, get_or}
use Rattle.weight_tables.specs.Harmonic.{harmonic_weight, harmonic_weights}
use Rattle.weight_tables.proofs.HarmonicLemmas.{get_or-harmonic_weights, length-harmonic_weights, All-harmonic_weights, harmonic_weights-fall, sum-harmonic_weights}
use Rattle.weight_tables.proofs.laws.harmonic_weights_fall.Goals as goal

each : (size power g : ℕ) → g < size → get_or (harmonic_weights size power) g 0 ≡ max 1 (10 ^ 9 / (g + 1) ^ power)
unfolding harmonic_weight
each size power g within = get_or-harmonic_weights size power g 0 within

pub returns : goal.returns
returns c = record {
  size = length-harmonic_weights;
  each = each;
  positive = All-harmonic_weights;
  falling = harmonic_weights-fall;
  small = sum-harmonic_weights;
}
