use Rattle.std.proofs.Common.{◌≡◌, ◌*◌}
use Rattle.id_permutation.specs.Placement.{IsWithin, halves_of, rounds}
use Rattle.id_permutation.proofs.network.Network.mix.Given as goal

-- two rounds for each pair so far
abbrev pub invariant-loop-pair : goal.invariant-loop-pair
invariant-loop-pair l = record {
  exact : l.halves ≡ rounds l.self.height l.self.width l.self.seed (2 * l.pair) (halves_of l.self.width l.number);
  within : IsWithin l.self.height l.self.width l.halves;
}
