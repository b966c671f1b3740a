-- What a keeper tells of its store, and what its calls do to that.
use Rattle.std.specs.Prelude.{◌≡◌, ◌<◌, ℕ, ◌+◌, Bool, true, false, List, length, take, Option}
use Rattle.std.specs.Option.{option_map}
use Rattle.row_keeper.specs.Kept.{KeptRows, Statement, after_statement, after_statements, no_rows}

-- the rows, and the name that was last started, each where it is told; whether the store is open; and how many statements were made since
-- it was started
pub record Store : Type 0 where
  pub rows : Option KeptRows
  pub name : Option (List ℕ)
  pub is_open : Bool
  pub done : ℕ

-- the store of this name is started: it has no rows
abbrev pub start_store : List ℕ → Store → Store
start_store name store = record {
  rows = option_map (λ (rows : KeptRows). no_rows) store.rows;
  name = option_map (λ (last : List ℕ). name) store.name;
  is_open = true;
  done = 0;
}

-- a statement is made
abbrev pub perform : Statement → Store → Store
perform statement store = record store {
  rows = option_map (λ (rows : KeptRows). after_statement rows statement) store.rows;
  done = store.done + 1;
}

-- all of these are, in order
abbrev pub perform_all : List Statement → Store → Store
perform_all statements store = record store {
  rows = option_map (after_statements statements) store.rows;
  done = store.done + length statements;
}

-- the store is finished
abbrev pub finish_store : Store → Store
finish_store store = record store { is_open = false }

-- of these statements those before one were made, in order, and no others
pub record StoppedIn (statements : List Statement) (before now : Store) : Type 0 where
  pub count : ℕ
  pub within : count < length statements
  pub made : now ≡ perform_all (take count statements) before
