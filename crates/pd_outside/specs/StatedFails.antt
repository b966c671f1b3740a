-- The failures that a library in memory is told to have.
use Rattle.std.specs.Prelude.{ℕ, Bool, ◌&&◌, ◌==◌, List}
use Rattle.std.specs.List.{list_any}
use Rattle.std.specs.Str.{bytes_eq}

-- the call of this number on a file of this name
pub record NameAndCall : Type 0 where
  pub name : List ℕ
  pub call : ℕ

-- whether a stated call is the call of this number on a file of this name
abbrev pub is_call : List ℕ → ℕ → NameAndCall → Bool
is_call name call fail = (fail.call == call) && bytes_eq fail.name name

-- whether the call of this number on a file of this name is stated to fail
abbrev pub states_call : List NameAndCall → List ℕ → ℕ → Bool
states_call fails name call = list_any (is_call name call) fails
