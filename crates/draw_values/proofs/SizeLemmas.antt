-- The greatest of a number for each item.
use Rattle.std.proofs.Common.{◌<◌, ◌≤◌, ℕ, zero, suc, max, List, [], ◌∷◌, get_or, length, arith}
use Rattle.std.specs.List.{fold}
use Rattle.schema_facts.specs.FieldSizes.{greatest_by}

from_most : {A : Type 0} (number : A → ℕ) (most : ℕ) (xs : List A) → most ≤ fold (λ m x. max m (number x)) most xs
from_most number most [] = omega arith
from_most number most (x ∷ xs) = omega (arith, from_most number (max most (number x)) xs)

from_each : {A : Type 0} (number : A → ℕ) (most : ℕ) (xs : List A) (i : ℕ) (d : A) → i < length xs → number (get_or xs i d) ≤ fold (λ m x. max m (number x)) most xs
from_each number most [] i d within = absurd (omega arith)
from_each number most (x ∷ xs) zero d within = omega (arith, from_most number (max most (number x)) xs)
from_each number most (x ∷ xs) (suc i) d within = from_each number (max most (number x)) xs i d (omega arith)

-- is no less than that of an item
pub greatest_by-each : {A : Type 0} (number : A → ℕ) (xs : List A) (i : ℕ) (d : A) → i < length xs → number (get_or xs i d) ≤ greatest_by number xs
greatest_by-each number xs i d within = from_each number 0 xs i d within
