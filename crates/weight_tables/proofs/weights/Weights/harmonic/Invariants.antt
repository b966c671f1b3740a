use Rattle.std.proofs.Common.{◌≡◌}
use Rattle.weight_tables.specs.Harmonic.{harmonic_weights}
use Rattle.weight_tables.proofs.weights.Weights.harmonic.Given as goal

abbrev pub invariant-loop-group : goal.invariant-loop-group
invariant-loop-group l = l.list.items ≡ harmonic_weights l.group l.power
