-- Bijections of 0..n-1, and the walk along a cycle: from a number by f, again and again, until below n.
use Rattle.std.specs.Prelude.{◌≡◌, ℕ, zero, suc, ◌+◌, ◌<◌, ◌≤◌, ◌==◌, nat_lt}
use Rattle.id_permutation.specs.Least.{least}

-- f maps the numbers below n to the numbers below n, each to one of its own, and meets them all
pub record IsBijectionBelow (n : ℕ) (f : ℕ → ℕ) : Type 0 where
  pub within : (x : ℕ) → x < n → f x < n
  pub one_to_one : (x y : ℕ) → x < n → y < n → f x ≡ f y → x ≡ y
  pub onto : (y : ℕ) → y < n → (x : ℕ) × (x < n) × (f x ≡ y)

-- g undoes f, and f undoes g, on the numbers below n, and both stay there
pub record AreInversesBelow (n : ℕ) (f g : ℕ → ℕ) : Type 0 where
  pub within : (x : ℕ) → x < n → f x < n
  pub within_back : (y : ℕ) → y < n → g y < n
  pub undone : (x : ℕ) → x < n → g (f x) ≡ x
  pub redone : (y : ℕ) → y < n → f (g y) ≡ y

-- what a bijection f of the numbers below n maps to y
unfoldable pub inverse_below : ℕ → (ℕ → ℕ) → ℕ → ℕ
inverse_below n f y = least (λ x. f x == y) n

-- f, k times
unfoldable pub iterate : (ℕ → ℕ) → ℕ → ℕ → ℕ
iterate f zero x = x
iterate f (suc k) x = f (iterate f k x)

-- y is the first of f x, f (f x), .. that is below n, and k numbers come before it
pub record IsFirstBelow (f : ℕ → ℕ) (n x k y : ℕ) : Type 0 where
  pub reached : iterate f (k + 1) x ≡ y
  pub below : y < n
  pub walked_past : (j : ℕ) → j < k → n ≤ iterate f (j + 1) x

-- the first of f x, f (f x), .. that is below n, looked for among the first `tries`
unfoldable pub first_below : (ℕ → ℕ) → ℕ → ℕ → ℕ → ℕ
first_below f n tries x = iterate f (least (λ k. nat_lt (iterate f (k + 1) x) n) tries + 1) x
