-- Orders that are kept, as a contract sees them.
use Rattle.std.specs.Prelude.{ℕ, List}
use Rattle.id_permutation.specs.Order.{Arrangement}

-- the orders, and how many entries their tables have together
pub record OrderList : Type 0 where
  pub orders : List Arrangement
  pub entries : ℕ
