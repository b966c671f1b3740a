use Rattle.std.proofs.Common.{◌≡◌, ℕ, ◌++◌, map, take, drop}
use Rattle.id_permutation.specs.Placement.{place}
use Rattle.id_permutation.proofs.network.Network.places.Given as goal

-- those so far, and then the ones that are left
abbrev pub invariant-loop-number : goal.invariant-loop-number
invariant-loop-number l =
    l.numbers ≡ map (λ (x : ℕ). place l.self.size l.self.seed x) (take l.number-index l.initial.numbers) ++ drop l.number-index l.initial.numbers
