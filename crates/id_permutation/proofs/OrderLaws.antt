-- Orders are bijections, with their inverses.
use Rattle.std.proofs.Common.{ℕ, zero, suc, Option, None, Some, refl, arith}
use Rattle.id_permutation.specs.Walk.{IsBijectionBelow, AreInversesBelow}
use Rattle.id_permutation.specs.Order.{Arrangement, place_by, number_by, place_in, number_at}
use Rattle.id_permutation.proofs.BijectionLaws.{IsBijectionBelow-from_inverse}
use Rattle.id_permutation.proofs.PlacementLaws.{AreInversesBelow-unplace}

-- no number is below 0
AreInversesBelow-zero : (f g : ℕ → ℕ) → AreInversesBelow 0 f g
AreInversesBelow-zero f g = record {
  within = λ x h. absurd (omega arith);
  within_back = λ x h. absurd (omega arith);
  undone = λ x h. absurd (omega arith);
  redone = λ x h. absurd (omega arith);
}

AreInversesBelow-number_by : (n : ℕ) (seed : Option ℕ) → AreInversesBelow n (place_by n seed) (number_by n seed)
AreInversesBelow-number_by n None = record { within = λ x h. h; within_back = λ x h. h; undone = λ x h. refl; redone = λ x h. refl }
AreInversesBelow-number_by zero (Some seed) = AreInversesBelow-zero _ _
AreInversesBelow-number_by (suc n) (Some seed) = AreInversesBelow-unplace (suc n) seed (omega arith)

pub AreInversesBelow-number_at : (order : Arrangement) → AreInversesBelow order.size (place_in order) (number_at order)
AreInversesBelow-number_at order = AreInversesBelow-number_by order.size order.seed

pub IsBijectionBelow-place_in : (order : Arrangement) → IsBijectionBelow order.size (place_in order)
IsBijectionBelow-place_in order = IsBijectionBelow-from_inverse order.size _ _ (AreInversesBelow-number_at order)
