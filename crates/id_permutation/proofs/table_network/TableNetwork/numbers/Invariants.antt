use Rattle.std.proofs.Common.{◌≡◌, ◌≤◌, ◌-◌, ℕ, ◌++◌, map, take, drop, length}
use Rattle.id_permutation.specs.Placement.{unplace}
use Rattle.id_permutation.proofs.table_network.TableNetwork.numbers.Given as goal

-- those so far, and then the ones that are left
abbrev pub invariant-loop-places : goal.invariant-loop-places
invariant-loop-places l = record {
  within : l.done ≤ length l.fn.places;
  so_far : l.places ≡ map (λ (x : ℕ). unplace l.self.network.size l.self.network.seed x) (take l.done l.fn.places) ++ drop l.done l.fn.places;
}

abbrev pub decreases-loop-places : goal.decreases-loop-places
decreases-loop-places l = length l.fn.places - l.done

abbrev pub invariant-loop-i : goal.invariant-loop-i
invariant-loop-i l = l.places ≡ map (λ (x : ℕ). unplace l.self.network.size l.self.network.seed x) (take l.i l.fn.places) ++ drop l.i l.fn.places
