use Rattle.std.proofs.Common.{◌≡◌, ◌*◌}
use Rattle.id_permutation.specs.declared.halves.Halves.{Halves}
use Rattle.id_permutation.specs.Placement.{IsWithin, halves_of, round_count, rounds}
use Rattle.id_permutation.proofs.network.Network.unmix.Given as goal

-- what the pairs that are left make these halves of, all rounds make the number's halves of
abbrev pub invariant-loop-pair : goal.invariant-loop-pair
invariant-loop-pair l = record {
  undone : (start : Halves) → rounds l.self.height l.self.width l.self.seed (2 * l.pair) start ≡ l.halves → rounds l.self.height l.self.width l.self.seed round_count start ≡ halves_of l.self.width l.mixed;
  within : IsWithin l.self.height l.self.width l.halves;
}
