-- The least number that passes a test.
use Rattle.std.specs.Prelude.{ℕ, zero, suc, ◌+◌, Bool, true, false}

-- the least number from k on that passes, of the first `tries`, or k + tries where none of them does
unfoldable pub least_from : (ℕ → Bool) → ℕ → ℕ → ℕ
least_from p zero k = k
least_from p (suc tries) k = elim (p k) [ true ↦ k | false ↦ least_from p tries (k + 1) ]

-- the least number below the bound that passes, or the bound where none does
unfoldable pub least : (ℕ → Bool) → ℕ → ℕ
least p bound = least_from p bound 0
