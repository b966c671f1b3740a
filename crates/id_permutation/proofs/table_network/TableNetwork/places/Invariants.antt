use Rattle.std.proofs.Common.{◌≡◌, ◌≤◌, ◌-◌, ℕ, ◌++◌, map, take, drop, length}
use Rattle.id_permutation.specs.Placement.{place}
use Rattle.id_permutation.proofs.table_network.TableNetwork.places.Given as goal

-- those so far, and then the ones that are left
abbrev pub invariant-loop-numbers : goal.invariant-loop-numbers
invariant-loop-numbers l = record {
  within : l.done ≤ length l.fn.numbers;
  so_far : l.numbers ≡ map (λ (x : ℕ). place l.self.network.size l.self.network.seed x) (take l.done l.fn.numbers) ++ drop l.done l.fn.numbers;
}

abbrev pub decreases-loop-numbers : goal.decreases-loop-numbers
decreases-loop-numbers l = length l.fn.numbers - l.done

abbrev pub invariant-loop-i : goal.invariant-loop-i
invariant-loop-i l = l.numbers ≡ map (λ (x : ℕ). place l.self.network.size l.self.network.seed x) (take l.i l.fn.numbers) ++ drop l.i l.fn.numbers
