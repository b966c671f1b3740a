-- What a library and a shelf in memory hold and count.
use Rattle.std.specs.Prelude.{◌≡◌, ℕ, Bool, ◌||◌, List, Result, is_none}
use Rattle.pd_outside.specs.Faults.{counted, faults_after}
use Rattle.pd_outside.specs.Files.{file_named}
use Rattle.pd_outside.specs.Library.{Content}
use Rattle.pd_outside.specs.Shelf.{Held}
use Rattle.pd_outside.specs.StatedFails.{NameAndCall, states_call}
use Rattle.pd_outside.specs.declared.fails.ShelfFail.{ShelfFail}

-- a library in memory: `name` is that of the started file, and `calls` counts the calls on it, its start among them
pub record Reading : Type 0 where
  pub content : Content
  pub name : List ℕ
  pub calls : ℕ
  pub fails : List NameAndCall
  pub asked : List (List ℕ)
  pub taken : ℕ
  pub faults : ℕ

-- whether starting this name fails: it is absent, or its call 1 is stated to fail
abbrev pub start_fails : Reading → List ℕ → Bool
start_fails library name = states_call library.fails name 1 || is_none (file_named library.content.files name)

-- whether the next read of the started file is stated to fail
abbrev pub read_fails : Reading → Bool
read_fails library = states_call library.fails library.name (counted library.calls)

-- a shelf in memory: its calls of each kind are counted over its life
pub record Writing : Type 0 where
  pub held : Held
  pub fails : List ShelfFail
  pub step : ℕ
  pub begins : ℕ
  pub writes : ℕ
  pub ends : ℕ
  pub faults : ℕ
  pub last_failed : Bool

-- A call of a shelf in memory counts a fault where it fails, and leaves what is stated of its calls.
pub record IsCounted {T E : Type 0} (result : Result T E) (before now : Writing) : Type 0 where
  pub faults : now.faults ≡ faults_after result before.faults
  pub fails : now.fails ≡ before.fails
  pub step : now.step ≡ before.step
