-- How a keeper in memory keeps its rows.
use Rattle.std.specs.Prelude.{◌≡◌, ◌&&◌, ◌==◌, ℕ, Bool, List, Result, Some, string_bytes}
use Rattle.std.specs.HashMap.{get}
use Rattle.std.specs.Option.{option_map}
use Rattle.pd_outside.specs.Faults.{Counts, exact_counts, faults_after}
use Rattle.row_keeper.specs.Kept.{KeptRow, KeptRows}
use Rattle.row_keeper.specs.Store.{Store}
use Rattle.row_keeper.specs.declared.map_keeper.Kept.{Kept}
use Rattle.row_keeper.specs.declared.map_keeper.MapKeeper.{MapKeeper}

-- a keeper in memory: `calls` counts its puts and drops over its life, and `fails` has the numbers of those that fail
pub record Keeping : Type 0 where
  pub rows : KeptRows
  pub name : List ℕ
  pub is_open : Bool
  pub done : ℕ
  pub fails : List ℕ
  pub calls : ℕ
  pub faults : ℕ
  pub last_failed : Bool

-- its store, which it tells whole
abbrev pub store_of : Keeping → Store
store_of keeping =
    record { rows = Some keeping.rows; name = Some keeping.name; is_open = keeping.is_open; done = keeping.done }

-- what it tells of failed calls
abbrev pub counts_of : Keeping → Counts
counts_of keeping = exact_counts keeping.faults keeping.last_failed

-- A call counts a fault where it fails, and leaves what is stated of calls.
pub record IsCounted {T E : Type 0} (result : Result T E) (before now : Keeping) : Type 0 where
  pub faults : now.faults ≡ faults_after result before.faults
  pub fails : now.fails ≡ before.fails

-- whether two keys, of a table's place and a row's key, are the same
abbrev pub same_key : ℕ × ℕ → ℕ × ℕ → Bool
same_key one other = one.0 == other.0 && one.1 == other.1

abbrev pub row_of : Kept → KeptRow
row_of kept = record { refs = kept.refs.items; line = kept.line.items }

abbrev pub keeping_of : MapKeeper → Keeping
keeping_of keeper = record {
  rows = λ table key. option_map row_of (get same_key keeper.rows (table, key));
  name = string_bytes keeper.name;
  is_open = keeper.is_open;
  done = keeper.done;
  fails = keeper.fails;
  calls = keeper.calls;
  faults = keeper.faults;
  last_failed = keeper.last_failed;
}
