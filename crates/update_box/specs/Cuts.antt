-- A list cut into shares, a share into packages, and the packages of several parts one after the other.
use Rattle.std.specs.Prelude.{ℕ, ◌+◌, ◌-◌, ◌*◌, ◌/◌, List, [], ◌∷◌, if◌then◌else◌, max, nat_lt}

-- of so many entries, the position where the share of a node begins, and that of the node before ends
abbrev pub cut_at : ℕ → ℕ → ℕ → ℕ
cut_at count node nodes = count * node / nodes

-- how many packages of at most so many entries are wanted for so many
abbrev pub package_count : ℕ → ℕ → ℕ
package_count size count = (count + (size - 1)) / size

-- the text of number n of those that some items have one after the other, where each item has so many
abbrev pub text_in : {A : Type 0} → (A → ℕ) → (A → ℕ → List ℕ) → List A → ℕ → List ℕ
text_in count text [] n = []
text_in count text (item ∷ items) n =
    if nat_lt n (count item) then text item n else text_in count text items (n - count item)

-- the greatest number that some items have; 0 where there is no item
abbrev pub greatest : {A : Type 0} → (A → ℕ) → List A → ℕ
greatest number [] = 0
greatest number (item ∷ items) = max (number item) (greatest number items)
