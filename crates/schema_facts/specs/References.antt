-- What columns that refer to other tables say of the rows that a row may have as its parents.
use Rattle.std.specs.Prelude.{ℕ, ◌-◌, ◌<◌, ◌≤◌, ◌≡◌, ⊤, Bool, not, List, All, filter, filter_map, length, Option, Some, None}
use Rattle.std.specs.List.{enumerate_from}
use Rattle.cohort_sizes.specs.Births.{Births, born_count, cohort_size, first_ordinal}
use Rattle.schema_facts.specs.Layout.{KindLayout, reference_kind, ColumnLayout, TableLayout, column_at, table_at}
use Rattle.schema_facts.specs.Lineage.{sure_life}

-- a reference: the place of its column, that of its parent's table, by how many units a parent may be older (None: by any), the
-- weights of its spread, whether it becomes null where the parent is deleted, else its row is deleted with the parent, and whether the
-- candidates are dealt in a drawn order
pub record Reference : Type 0 where
  pub column : ℕ
  pub parent : ℕ
  pub window : Option ℕ
  pub spread : List ℕ
  pub nulls : Bool
  pub drawn : Bool

-- the reference of the column at a place; None where the column is of another kind
abbrev pub reference_of : ℕ → KindLayout → Option Reference
reference_of column (reference_kind parent window spread nulls drawn) =
    Some (record { column = column; parent = parent; window = window; spread = spread; nulls = nulls; drawn = drawn })
reference_of column _ = None

-- that of the column at a place of a table
abbrev pub reference_at : TableLayout → ℕ → Option Reference
reference_at table column = reference_of column (column_at table.columns column).kind

-- the references of a table, in the order of its columns
abbrev pub references_of : TableLayout → List Reference
references_of table =
    filter_map (λ (at : ℕ × ColumnLayout). reference_of at.0 at.1.kind) (enumerate_from 0 table.columns)

-- those whose parents take the row with them when they are deleted
abbrev pub cascades_of : TableLayout → List Reference
cascades_of table = filter (λ (reference : Reference). not reference.nulls) (references_of table)

-- the first unit of a window that ends at a unit
abbrev pub window_start : Option ℕ → ℕ → ℕ
window_start None unit = 0
window_start (Some units) unit = unit - units

-- the first ordinal that is born in a window that ends at a unit
abbrev pub first_in_window : Births → Option ℕ → ℕ → ℕ
first_in_window births window unit = first_ordinal births (window_start window unit)

-- how many rows are born in it
abbrev pub count_in_window : Births → Option ℕ → ℕ → ℕ
count_in_window births window unit = born_count births unit - first_in_window births window unit

-- each row that is born in a window is alive at its end, by how long rows live for sure
abbrev pub IsWithinLife : Option ℕ → Option ℕ → Type 0
IsWithinLife None sure = sure ≡ None
IsWithinLife (Some units) None = ⊤
IsWithinLife (Some units) (Some life) = units < life

-- a weight of a spread
pub record IsSpreadWeight (weight : ℕ) : Type 0 where
  pub positive : 1 ≤ weight
  pub weight_limit : weight ≤ 1000

-- the weights of a spread
pub record IsSpread (weights : List ℕ) : Type 0 where
  pub some_weight : 1 ≤ length weights
  pub group_limit : length weights ≤ 64
  pub each : All IsSpreadWeight weights

-- a reference of the table at a place within its limits: to an earlier table, in a window within the sure life of its rows, and up to
-- a last unit there is a row to refer to at each unit at which rows are born
pub record IsReferenceInLimits (units : ℕ) (tables : List TableLayout) (place : ℕ) (reference : Reference) : Type 0 where
  pub earlier : reference.parent < place
  pub within_life : IsWithinLife reference.window (sure_life tables reference.parent)
  pub some_parent : (unit : ℕ) → unit ≤ units → 0 < cohort_size (table_at tables place).births unit →
      first_in_window (table_at tables reference.parent).births reference.window unit
      < born_count (table_at tables reference.parent).births unit
  pub spread : IsSpread reference.spread
