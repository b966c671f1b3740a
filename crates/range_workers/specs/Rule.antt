-- The rule of claims: a fact about the word of a claim table and the views of all its seats, which each step keeps.
use Rattle.std.specs.Prelude.{◌≡◌, ◌==◌, ◌^◌, ◌≤◌, ◌⊎◌, ℕ, List, All, Any, count_by, if◌then◌else◌, length, nat_lt, slice_index, ⊤}
use Rattle.std.specs.List.{flat_map}
use Rattle.atomic_table.specs.Table.{State}
use Rattle.range_workers.specs.declared.view.View.{View}
use Rattle.range_workers.specs.declared.view.View.TheVariants.{Caller, Worker, Spent}
use Rattle.range_workers.specs.Views.{is_caller, is_worker, numbers}

-- how often a number stands in a list
abbrev pub times : ℕ → List ℕ → ℕ
times x ns = count_by (λ n. n == x) ns

-- once for a number below n, and else never
abbrev pub once_below : ℕ → ℕ → ℕ
once_below n x = if nat_lt x n then 1 else 0

-- the list has each of the numbers 0 to n - 1 once, and no other
pub record AreAllBelow (n : ℕ) (ns : List ℕ) : Type 0 where
  pub count : length ns ≡ n
  pub each_once : (x : ℕ) → times x ns ≡ once_below n x

-- how many views are the caller's, and how many are workers'
abbrev pub callers : List View → ℕ
callers views = count_by is_caller views

abbrev pub workers : List View → ℕ
workers views = count_by is_worker views

-- what the rule asks of one view, where there are so many workers
abbrev pub Fits : ℕ → ℕ → View → Type 0
Fits word workers (Caller ns out) = (out ≡ workers) × (out ≤ 64) × (length ns ≤ 2 ^ 62)
Fits word workers (Worker ns from) = (from ≤ word) × All (λ n. from ≤ n) ns × (length ns ≤ 8)
Fits word workers Spent = ⊤

-- The rule. One view is the caller's, and the lists of all views together have each number below the word once, and no other.
pub record KeepsRule (word : ℕ) (views : List View) : Type 0 where
  pub one_caller : callers views ≡ 1
  pub fits : All (Fits word (workers views)) views
  pub numbers : AreAllBelow word (flat_map numbers views)

-- a worker claims no more in a round whose numbers are below a limit: it has eight numbers, or one from the limit on
abbrev pub IsDone : ℕ → View → Type 0
IsDone limit (Worker ns from) = (length ns ≡ 8) ⊎ Any (λ n. limit ≤ n) ns
IsDone limit view = ⊤

-- a table of one word keeps it
pub record IsKept (state : State (Unit {0}) View) : Type 0 where
  pub one_word : length state.words ≡ 1
  pub rule : KeepsRule (slice_index state.words 0) state.views
