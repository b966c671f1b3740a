-- Tables of which the simulation has a closed form.
use Rattle.std.specs.Prelude.{ℕ, ◌<◌, ◌≤◌, All, IfSome, List, length}
use Rattle.cohort_sizes.specs.Births.{born_count, cohort_size}
use Rattle.schema_facts.specs.Layout.{TableLayout, table_at}
use Rattle.schema_plan.specs.Limits.{IsSpan}
use Rattle.schema_facts.specs.Lineage.{sure_life}
use Rattle.schema_facts.specs.References.{IsWithinLife, Reference, first_in_window, references_of}

-- a reference of the table at a place: to an earlier table, in a window within the sure life of its rows, and up to a last unit
-- there is a row to refer to at each unit at which rows are born
pub record IsSoundReference (units : ℕ) (tables : List TableLayout) (place : ℕ) (reference : Reference) : Type 0 where
  pub earlier : reference.parent < place
  pub within_life : IsWithinLife reference.window (sure_life tables reference.parent)
  pub some_parent : (unit : ℕ) → unit ≤ units → 0 < cohort_size (table_at tables place).births unit →
      first_in_window (table_at tables reference.parent).births reference.window unit
      < born_count (table_at tables reference.parent).births unit

-- the table at a place: its life, every how many units its rows change, its references
pub record IsSoundTable (units : ℕ) (tables : List TableLayout) (place : ℕ) : Type 0 where
  pub life : IfSome (table_at tables place).life IsSpan
  pub period : IfSome (table_at tables place).update (λ period. 1 ≤ period)
  pub references : All (IsSoundReference units tables place) (references_of (table_at tables place))

-- each table, up to a last unit
abbrev pub AreSound : ℕ → List TableLayout → Type 0
AreSound units tables = (place : ℕ) → place < length tables → IsSoundTable units tables place
