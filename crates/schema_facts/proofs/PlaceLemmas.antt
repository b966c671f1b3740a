-- The place of the first item that passes a test, or the length of the list.
use Rattle.std.proofs.Common.{◌≡◌, ℕ, ◌≤◌, Bool, true, false, cond, List, length, Some, None, refl, arith, ltb}
use Rattle.std.specs.List.{position, position_or_len}
use Rattle.std.specs.Option.{unwrap_or}
use Rattle.std.proofs.lemmas.Bool.{ltb-false}
use Rattle.std.proofs.lemmas.List.Sums.{prefix_len-le-length}

chosen : (test : Bool) (place count : ℕ) → ltb place count ≡ test → place ≤ count → unwrap_or (cond test (Some place) None) count ≡ place
chosen true place count h within = refl
chosen false place count h within = omega (arith, ltb-false place count h)

pub position-unwrap : {A : Type 0} (test : A → Bool) (xs : List A) → unwrap_or (position test xs) (length xs) ≡ position_or_len test xs
position-unwrap test xs =
    chosen (ltb (position_or_len test xs) (length xs)) (position_or_len test xs) (length xs) refl (prefix_len-le-length _ xs)
